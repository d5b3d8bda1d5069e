-- `sizes_fit` meets its contract. Assumes nothing.
use mathlib.Core.Bool.{false≢true}
use native.Mathlib.Omega.{arith}
use borrow.Author.Tests.{leb-true}
use Rattle.formula.specs.Formula.{max_rows}
use Rattle.engine.proofs.search.satisfied_rows.sizes_fit.Goals as goal

pub returns-then-size-ne-WORDS : goal.returns-then-size-ne-WORDS
returns-then-size-ne-WORDS c = λ e. absurd (false≢true e)

pub returns-then-terms-ne-WORDS : goal.returns-then-terms-ne-WORDS
returns-then-terms-ne-WORDS c = λ e. absurd (false≢true e)

pub returns : goal.returns
returns c = λ e. (omega arith, omega arith, leb-true c.args.rows max_rows e)
