-- `search_groups::copy_start` meets its contract. The invariant: the copy of row i goes back as far as that of the rows up to `from`. Assumes nothing.
use Prim.Native.Nat.{◌<◌, ◌-◌, ◌≤◌, ◌+◌}
use mathlib.Core.Path.{◌≡◌}
use Rattle.search_groups.specs.Groups.{differ_before, last_behind, copy_start}
use Rattle.search_groups.proofs.copy_start.Given as goal

abbrev pub invariant-loop-from : goal.invariant-loop-from
invariant-loop-from l =
    (l.lo < l.from) × (l.from ≤ l.i + 1) × (copy_start l.differences l.k l.lo l.i ≡ last_behind (differ_before l.differences l.k) l.lo (l.from - 1 - l.lo))
