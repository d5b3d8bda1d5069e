-- `search_numbering::group` meets its contract. The loop's invariant: the places passed have the first places of their copies, and `start` is the last of
-- them. Assumes nothing.
use Prim.Native.Nat.{◌-◌, ◌≤◌}
use mathlib.Core.Path.{◌≡◌}
use lib.ListN.{length}
use Rattle.formula.specs.Formula.{max_rows}
use Rattle.search_numbering.specs.Numbering.{first_place}
use Rattle.search_numbering.specs.Private.Wants.{Grouped}
use Rattle.search_numbering.proofs.group.Given as goal

abbrev pub invariant-loop-i : goal.invariant-loop-i
invariant-loop-i l = (l.i ≤ l.count) × (length l.first ≡ max_rows) × Grouped l.differences l.k l.i l.first ×
    (l.start ≡ first_place l.differences l.k (l.i - 1))
