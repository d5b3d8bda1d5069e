-- `opening::block` meets its contract. The loop's invariant: the entries passed are equal, and those that follow are still to be counted.
-- Assumes nothing.
use Prim.Native.Nat.{◌+◌, ◌≤◌}
use mathlib.Core.Path.{◌≡◌}
use lib.ListN.{length as long, drop}
use Rattle.opening.specs.Start.{equal_from_start}
use Rattle.opening.proofs.block.Given as goal

abbrev pub invariant-loop-length : goal.invariant-loop-length
invariant-loop-length l = (l.length ≤ long l.kinds) × (equal_from_start l.kind l.kinds ≡ l.length + equal_from_start l.kind (drop l.length l.kinds))
