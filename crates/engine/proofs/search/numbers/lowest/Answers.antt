-- `numbers::lowest` meets its contract. Assumes nothing.
use native.Mathlib.Omega.{arith}
use lib.Count.{trailing_le}
use Rattle.std.specs.Int.{w64}
use Rattle.std.proofs.lemmas.Nat.Bits.{bit_at-trailing_zeros}
use Rattle.engine.proofs.search.numbers.lowest.Goals as goal

pub overflow_cast-result : goal.overflow_cast-result
overflow_cast-result c = record { fits = omega (arith, trailing_le 64 c.args.word) }

pub returns : goal.returns
returns c =
    (omega (arith, trailing_le 64 c.args.word), λ some. (bit_at-trailing_zeros w64 c.args.word some c.ranges.word.fits).0)
