-- `trimming::lowest_unit` meets its contract. The loop's invariant: no unknown passed is noted.
-- Assumes nothing.
use Prim.Native.Nat.{ℕ, ◌<◌}
use mathlib.Core.Path.{◌≡◌}
use lib.ListN.{get_or}
use Rattle.trimming.proofs.lowest_unit.Given as goal

abbrev pub invariant-loop-name : goal.invariant-loop-name
invariant-loop-name l = ((w : ℕ) → 0 < w → w < l.name → get_or l.firsts w 0 ≡ 65535)
