-- `trimming::opposite` meets its contract.
-- Assumes nothing.
use borrow.Author.Tests.{eq-eqb, ne_eqb}
use Rattle.codes.specs.Codes.{opposite}
use Rattle.trimming.proofs.opposite.Goals as goal

pub returns-then-code-eq0 : goal.returns-then-code-eq0
unfolding opposite
returns-then-code-eq0 c = rw (eq-eqb _ 0 c.if-code-eq0.true)

pub returns-else-code-eq0 : goal.returns-else-code-eq0
unfolding opposite
returns-else-code-eq0 c = rw (ne_eqb _ 0 c.if-code-eq0.false)
