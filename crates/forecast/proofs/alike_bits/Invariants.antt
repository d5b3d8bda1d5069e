-- `forecast::alike_bits` meets its contract. The loop's invariant: the bits passed agree. Assumes nothing.
use Prim.Native.Nat.{ℕ, ◌/◌, ◌%◌, ◌^◌, ◌≤◌, ◌<◌}
use mathlib.Core.Path.{◌≡◌}
use Rattle.forecast.proofs.alike_bits.Given as goal

abbrev pub invariant-loop-t : goal.invariant-loop-t
invariant-loop-t l = (l.t ≤ 8) × ((s : ℕ) → s < l.t → l.a / 2 ^ s % 2 ≡ l.b / 2 ^ s % 2)
