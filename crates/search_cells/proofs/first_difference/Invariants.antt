-- `search_cells::first_difference` meets its contract. The loop's invariant: the search from the position reached on finds what the whole search finds.
-- Assumes nothing.
use Prim.Native.Nat.{◌-◌, ◌≤◌}
use mathlib.Core.Path.{◌≡◌}
use lib.ListN.{length}
use Rattle.search_cells.specs.Steps.{first_from, differ, first_difference}
use Rattle.search_cells.proofs.first_difference.Given as goal

abbrev pub invariant-loop-k : goal.invariant-loop-k
invariant-loop-k l = (l.k ≤ length l.kinds) × (first_difference l.kinds l.side l.work l.i ≡ first_from (differ l.kinds l.side l.work l.i) l.k
    (length l.kinds - l.k))
