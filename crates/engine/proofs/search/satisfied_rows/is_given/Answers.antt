-- `is_given` meets its contract. Assumes nothing.
use mathlib.Core.Bool.{false≢true}
use lib.Dec.{eqb}
use lib.ListN.{get_or}
use Rattle.engine.proofs.search.SatisfiedRows.{not_true}
use Rattle.engine.proofs.search.satisfied_rows.is_given.Goals as goal

pub returns-then-p-kinds : goal.returns-then-p-kinds
returns-then-p-kinds c = λ e. not_true (eqb (get_or c.args.kinds.now c.args.p 0) 1) e

pub returns-else-p-kinds : goal.returns-else-p-kinds
returns-else-p-kinds c = λ e. absurd (false≢true e)
