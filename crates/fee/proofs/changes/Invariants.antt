-- `fee::changes` meets its contract. The loop's invariant: `count` is the changes up to the kind before place i.
-- Assumes nothing.
use Prim.Native.Nat.{◌+◌, ◌-◌, ◌≤◌, ◌<◌}
use mathlib.Core.Path.{◌≡◌}
use lib.ListN.{drop}
use Rattle.fee.specs.Fee.{changes}
use Rattle.fee.proofs.changes.Given as goal

abbrev pub invariant-loop-i : goal.invariant-loop-i
invariant-loop-i l = (1 ≤ l.i) × (l.count < l.i) × (l.count + changes (drop (l.i - 1) l.kinds) ≡ changes l.kinds)
