-- `search_groups::first_open` meets its contract. The loop's invariant: the first open position is that from `at` on. Assumes nothing.
use Prim.Native.Nat.{◌-◌, ◌≤◌, max}
use mathlib.Core.Path.{◌≡◌}
use Rattle.search_cells.specs.Steps.{first_from}
use Rattle.search_groups.specs.Groups.{is_open, open_position}
use Rattle.search_groups.proofs.first_open.Given as goal

abbrev pub invariant-loop-at : goal.invariant-loop-at
invariant-loop-at l =
    (l.at ≤ max l.k l.until)
    × (open_position l.kinds l.work l.side l.k l.lo l.until ≡ first_from (is_open l.kinds l.work l.side l.lo) l.at (l.until - l.at))
