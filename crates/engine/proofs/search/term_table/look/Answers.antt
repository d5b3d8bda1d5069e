-- `look` meets its contract. Assumes nothing.
use Rattle.engine.proofs.search.RowLaws.{missed_more}
use mathlib.Core.Path.{refl}
use native.Mathlib.Omega.{arith}
use Rattle.engine.proofs.search.term_table.look.Goals as goal

pub loop-k-preserved : goal.loop-k-preserved
loop-k-preserved c =
    rw c.put.ensures (missed_more c.loop-k.invariant (omega arith) (omega arith) _ _ _ refl c.column-column.ensures)
