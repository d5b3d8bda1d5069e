-- `search_cells::fill` meets its contract. The loop's invariant: the steps left give what all the steps give. Assumes nothing.
use Prim.Native.Nat.{◌-◌, ◌≤◌}
use mathlib.Core.Path.{◌≡◌}
use lib.ListN.{length}
use Rattle.formula.specs.Formula.{work_size, max_rows, max_unknowns}
use Rattle.search_cells.specs.Steps.{steps}
use Rattle.search_cells.proofs.FillLaws.{row_step}
use Rattle.search_cells.proofs.fill.Given as goal

abbrev pub invariant-loop-row : goal.invariant-loop-row
invariant-loop-row l =
    (length l.initial.work ≡ work_size)
    × (length l.kinds ≤ max_unknowns)
    × (length l.place ≤ max_rows)
    × (l.row ≤ length l.place)
    × (length l.work ≡ work_size)
    × (steps (row_step l.kinds l.rows l.place l.side) (length l.place) 0 l.initial.work ≡ steps (row_step l.kinds l.rows l.place l.side)
    (length l.place - l.row) l.row l.work)
