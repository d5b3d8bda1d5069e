-- `search_cells::undo` meets its contract. The loop's invariant: the steps left give what all the steps give. Assumes nothing.
use Prim.Native.Nat.{◌-◌, ◌*◌, ◌≤◌}
use mathlib.Core.Path.{◌≡◌}
use lib.ListN.{length}
use Rattle.formula.specs.Formula.{work_size, max_rows, max_unknowns}
use Rattle.search_cells.specs.Steps.{steps, with_bounded}
use Rattle.search_cells.proofs.undo.Given as goal

abbrev pub invariant-loop-at : goal.invariant-loop-at
invariant-loop-at l =
    (l.hi ≤ max_rows)
    × (length l.initial.work ≡ work_size)
    × (length l.work ≡ work_size)
    × (steps (with_bounded l.bound) (max_unknowns * l.hi - max_unknowns * l.lo) (max_unknowns * l.lo) l.initial.work ≡ steps (with_bounded l.bound)
    (max_unknowns * l.hi - l.at) l.at l.work)
