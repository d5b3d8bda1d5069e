-- `search_cells::compare` meets its contract. The loop's invariant: the steps left give what all the steps give. Assumes nothing.
use Prim.Native.Nat.{◌-◌, ◌≤◌}
use mathlib.Core.Path.{◌≡◌}
use lib.ListN.{length}
use Rattle.formula.specs.Formula.{work_size, max_rows, max_unknowns}
use Rattle.search_cells.specs.Steps.{steps, with_split}
use Rattle.search_cells.proofs.compare.Given as goal

abbrev pub invariant-loop-i : goal.invariant-loop-i
invariant-loop-i l =
    (length l.work ≡ work_size)
    × (length l.kinds ≤ max_unknowns)
    × (l.count ≤ max_rows)
    × (l.i ≤ max_rows)
    × (length l.differences ≡ max_rows)
    × (steps (with_split l.kinds l.side l.work) (l.count - 1) 0 l.initial.differences ≡ steps (with_split l.kinds l.side l.work) (l.count - 1 - (l.i - 1))
    (l.i - 1) l.differences)
