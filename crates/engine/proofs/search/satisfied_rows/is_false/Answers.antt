-- `is_false` meets its contract. Assumes nothing.
use mathlib.Core.Path.{◌∙◌, sym}
use mathlib.Core.Bool.{false≢true}
use borrow.Author.Tests.{eqb-true}
use Rattle.engine.proofs.search.satisfied_rows.is_false.Goals as goal

pub returns-then-begins : goal.returns-then-begins
returns-then-begins c = λ e. (c.begins.ensures c.if-begins.true, sym c.look.ensures ∙ eqb-true c.look.result 0 e)

pub returns-else-begins : goal.returns-else-begins
returns-else-begins c = λ e. absurd (false≢true e)
