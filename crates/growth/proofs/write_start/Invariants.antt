-- `growth::write_start` meets its contract. The loop's invariant: the bits passed are set that are preferred. Assumes nothing.
use Prim.Native.Nat.{◌≤◌, ◌-◌}
use mathlib.Core.Path.{◌≡◌}
use lib.ListN.{length, replicate}
use Rattle.preference.specs.Preference.{prefer}
use Rattle.growth.specs.Growth.{with_preferred}
use Rattle.growth.proofs.write_start.Given as goal

abbrev pub invariant-loop-k : goal.invariant-loop-k
invariant-loop-k l = (l.row ≡ with_preferred (prefer l.preferences) l.k (replicate 16 0)) × (l.k ≤ l.universals) × (length l.row ≡ 16)

abbrev pub decreases-loop-k : goal.decreases-loop-k
decreases-loop-k l = l.universals - l.k
