-- `forecast::told_by` meets its contract. The loop's invariant: so many of the numbers passed are at most so many bits. Assumes nothing.
use Prim.Native.Nat.{◌≤◌}
use mathlib.Core.Path.{◌≡◌}
use Rattle.forecast.specs.Private.Starts.{within}
use Rattle.forecast.proofs.told_by.Given as goal

abbrev pub invariant-loop-i : goal.invariant-loop-i
invariant-loop-i l = (l.i ≤ l.count) × (l.told ≤ l.i) × (l.told ≡ within l.numbers l.bits l.i)
