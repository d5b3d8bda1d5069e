-- A turn of each loop. Assumes nothing.
use Prim.Native.Nat.{ℕ}
use mathlib.Core.Path.{◌≡◌}
use mathlib.Core.List.{List}
use lib.ListN.{replicate}
use Rattle.rows.specs.Row.{bit_of, row_of}
use Rattle.rows.specs.Table.{row_at}
use Rattle.growth.specs.Growth.{with_preferred}
use Rattle.growth.proofs.PreferredLaws.{preferred_bytes}
use Rattle.opening.specs.Start.{first_bits}

-- Behind the entries passed: the next one differs, or is one more.

-- The bits that the loop sets.
pub bits_set : (table : List ℕ) (i m : ℕ) → with_preferred (bit_of (row_at table i)) m (replicate 16 0) ≡ first_bits table i m
unfolding first_bits row_of
bits_set table i m = preferred_bytes (bit_of (row_at table i)) m
