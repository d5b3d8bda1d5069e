-- `fee::rises` meets its contract. The loop's invariant: `rising` is whether the first rounds up to the one before place i rise.
-- Assumes nothing.
use Prim.Native.Nat.{◌≤◌, ◌-◌}
use mathlib.Core.Path.{◌≡◌}
use mathlib.Core.Bool.{◌&&◌}
use lib.ListN.{drop}
use Rattle.fee.specs.Bands.{rises}
use Rattle.fee.proofs.rises.Given as goal

abbrev pub invariant-loop-i : goal.invariant-loop-i
invariant-loop-i l = (1 ≤ l.i) × (rises l.firsts ≡ (l.rising && rises (drop (l.i - 1) l.firsts)))
