-- `search_cells::set_rows` meets its contract. The loop's invariant: the steps left give what all the steps give. Assumes nothing.
use Prim.Native.Nat.{◌-◌, ◌≤◌}
use mathlib.Core.Path.{◌≡◌}
use lib.ListN.{length}
use Rattle.formula.specs.Formula.{work_size, max_rows}
use Rattle.search_cells.specs.Steps.{steps, with_cell}
use Rattle.search_cells.proofs.set_rows.Given as goal

abbrev pub invariant-loop-i : goal.invariant-loop-i
invariant-loop-i l =
    (l.hi ≤ max_rows)
    × (length l.initial.work ≡ work_size)
    × (length l.work ≡ work_size)
    × (steps (λ j. with_cell j l.k l.level l.value) (l.hi - l.lo) l.lo l.initial.work ≡ steps (λ j. with_cell j l.k l.level l.value) (l.hi - l.i) l.i l.work)
