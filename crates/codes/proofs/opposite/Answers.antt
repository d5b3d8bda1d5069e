-- `codes::opposite` meets its contract. Assumes nothing.
use borrow.Author.Tests.{eq-eqb, ne_eqb}
use Rattle.codes.specs.Codes.{opposite}
use Rattle.codes.proofs.opposite.Goals as goal

pub returns-then-c-eq0 : goal.returns-then-c-eq0
unfolding opposite
returns-then-c-eq0 c = rw (eq-eqb _ 0 c.if-c-eq0.true)

pub returns-else-c-eq0 : goal.returns-else-c-eq0
unfolding opposite
returns-else-c-eq0 c = rw (ne_eqb _ 0 c.if-c-eq0.false)
