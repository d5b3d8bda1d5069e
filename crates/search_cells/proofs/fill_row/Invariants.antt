-- `search_cells::fill_row` meets its contract. The loop's invariant: the steps left give what all the steps give, and the row's next bit is the
-- number of the other side's unknowns among the positions passed. Assumes nothing.
use Prim.Native.Nat.{◌-◌, ◌≤◌}
use mathlib.Core.Path.{◌≡◌}
use lib.ListN.{length}
use Rattle.formula.specs.Formula.{work_size}
use Rattle.expansion.specs.Cells.{others_before}
use Rattle.search_cells.specs.Cells.{owned}
use Rattle.search_cells.specs.Steps.{steps, with_given, with_given_row}
use Rattle.search_cells.proofs.fill_row.Given as goal

abbrev pub invariant-loop-k : goal.invariant-loop-k
invariant-loop-k l =
    (l.k ≤ length l.kinds)
    × (l.bit ≡ others_before (owned l.kinds l.side) l.k)
    × (length l.work ≡ work_size)
    × (with_given_row l.kinds l.rows l.side l.row l.i l.initial.work ≡ steps (with_given l.kinds l.rows l.side l.row l.i) (length l.kinds - l.k) l.k l.work)
