-- `search_cells::pack` meets its contract. The loop's invariant: the rows passed are packed, and all behind them is as it was. Assumes nothing.
use Prim.Native.Nat.{◌≤◌}
use mathlib.Core.Path.{◌≡◌}
use lib.ListN.{length}
use Rattle.formula.specs.Formula.{work_size, max_rows, max_unknowns}
use Rattle.search_cells.proofs.PackLaws.{rows_packed}
use Rattle.search_cells.proofs.pack.Given as goal

abbrev pub invariant-loop-row : goal.invariant-loop-row
invariant-loop-row l =
    (length l.initial.work ≡ work_size)
    × (length l.kinds ≤ max_unknowns)
    × (length l.place ≤ max_rows)
    × (l.row ≤ length l.place)
    × (length l.work ≡ work_size)
    × (l.work ≡ rows_packed l.kinds l.place l.side l.initial.work l.row)
