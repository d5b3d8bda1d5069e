-- `rows::same_row` meets its contract. The loop's invariant: whether the bytes passed are equal. Assumes nothing.
use mathlib.Core.Path.{◌≡◌}
use Prim.Native.Nat.{◌-◌, ◌≤◌}
use lib.ListN.{take, drop}
use Rattle.rows.specs.Access.{same_bytes}
use Rattle.rows.proofs.same_row.Given as goal

abbrev pub invariant-loop-p : goal.invariant-loop-p
invariant-loop-p l = (l.p ≤ 16) × (l.same ≡ same_bytes (take l.p (drop l.x l.a)) (take l.p (drop l.y l.b)))

abbrev pub decreases-loop-p : goal.decreases-loop-p
decreases-loop-p l = 16 - l.p
