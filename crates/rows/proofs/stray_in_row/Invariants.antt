-- `rows::stray_in_row` meets its contract. The loop's invariant: the bytes passed behind the byte of bit m are zero. Assumes nothing.
use mathlib.Core.Path.{◌≡◌}
use Prim.Native.Nat.{ℕ, ◌+◌, ◌-◌, ◌/◌, ◌≤◌, ◌<◌}
use lib.ListN.{get_or}
use Rattle.rows.proofs.stray_in_row.Given as goal

abbrev pub invariant-loop-p : goal.invariant-loop-p
invariant-loop-p l = (l.m / 8 < l.p) × (l.p ≤ 16) × ((q : ℕ) → q < l.p → l.m / 8 < q → get_or l.rows (l.x + q) 0 ≡ 0)

abbrev pub decreases-loop-p : goal.decreases-loop-p
decreases-loop-p l = 16 - l.p
