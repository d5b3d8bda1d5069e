-- `is_own` meets its contract. Assumes nothing.
use mathlib.Core.Bool.{false≢true}
use Rattle.engine.proofs.search.satisfied_rows.is_own.Goals as goal

pub returns-then-p-kinds : goal.returns-then-p-kinds
returns-then-p-kinds c = λ e. e

pub returns-else-p-kinds : goal.returns-else-p-kinds
returns-else-p-kinds c = λ e. absurd (false≢true e)
