-- `search_groups::copy_end` meets its contract. The invariant: the copy of row i goes as far as that of the rows from `to` on. Assumes nothing.
use Prim.Native.Nat.{◌-◌, ◌≤◌}
use mathlib.Core.Path.{◌≡◌}
use Rattle.search_cells.specs.Steps.{first_from}
use Rattle.search_groups.specs.Groups.{differ_before, copy_end}
use Rattle.search_groups.proofs.copy_end.Given as goal

abbrev pub invariant-loop-to : goal.invariant-loop-to
invariant-loop-to l = (l.to ≤ l.hi) × (copy_end l.differences l.k l.i l.hi ≡ first_from (differ_before l.differences l.k) l.to (l.hi - l.to))
