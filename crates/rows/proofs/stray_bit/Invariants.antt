-- `rows::stray_bit` meets its contract. The loop's invariant: no row passed has a stray bit. Assumes nothing.
use mathlib.Core.Path.{◌≡◌}
use mathlib.Core.Bool.{false}
use Prim.Native.Nat.{ℕ, ◌-◌, ◌≤◌, ◌<◌}
use Rattle.rows.specs.Stray.{stray}
use Rattle.rows.specs.Table.{row_at}
use Rattle.rows.proofs.stray_bit.Given as goal

abbrev pub invariant-loop-i : goal.invariant-loop-i
invariant-loop-i l = (l.i ≤ l.end) × ((q : ℕ) → q < l.i → stray l.m (row_at l.rows q) ≡ false)

abbrev pub decreases-loop-i : goal.decreases-loop-i
decreases-loop-i l = l.end - l.i
