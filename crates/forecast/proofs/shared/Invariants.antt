-- `forecast::shared` meets its contract. The loop's invariant: the bytes passed are equal. Assumes nothing.
use Prim.Native.Nat.{ℕ, ◌+◌, ◌*◌, ◌≤◌, ◌<◌}
use mathlib.Core.Path.{◌≡◌}
use lib.ListN.{get_or}
use Rattle.forecast.proofs.shared.Given as goal

abbrev pub invariant-loop-p : goal.invariant-loop-p
invariant-loop-p l = (l.p ≤ 16) × ((q : ℕ) → q < l.p → get_or l.rows (16 * l.i + q) 0 ≡ get_or l.rows (16 * l.j + q) 0)
