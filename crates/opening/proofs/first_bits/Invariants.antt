-- `opening::first_bits` meets its contract. The loop's invariant: the bits passed are set that the row has. Assumes nothing.
use Prim.Native.Nat.{◌≤◌}
use mathlib.Core.Path.{◌≡◌}
use lib.ListN.{length as long, replicate}
use Rattle.rows.specs.Row.{bit_of}
use Rattle.rows.specs.Table.{row_at}
use Rattle.growth.specs.Growth.{with_preferred}
use Rattle.opening.proofs.first_bits.Given as goal

abbrev pub invariant-loop-k : goal.invariant-loop-k
invariant-loop-k l = (l.row ≡ with_preferred (bit_of (row_at l.rows l.place)) l.k (replicate 16 0)) × (l.k ≤ l.length) × (long l.row ≡ 16)
