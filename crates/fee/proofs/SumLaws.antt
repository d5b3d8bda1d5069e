-- The bands from the i-th on, and what one of them adds. Assumes nothing.
use Prim.Native.Nat.{ℕ, ◌+◌, ◌*◌, ◌-◌, ◌^◌, ◌<◌, ◌≤◌}
use native.Mathlib.Omega.{arith}
use native.Mathlib.Nat.{mul-le-mul}
use native.Mathlib.Numerals.{add-one}
use mathlib.Core.Path.{◌≡◌}
use mathlib.Core.List.{List}
use lib.ListN.{length, get_or, drop}
use lib.Seq.{drop-cons}
use Rattle.formula.specs.Formula.{max_unknowns}
use Rattle.fee.specs.Bands.{max_price}
use Rattle.fee.specs.ByBands.{next_on, by_bands}

module _ (rounds : ℕ) (firsts : List ℕ) (i : ℕ) where
  module _ (prices : List ℕ) where
    -- What band i adds, by the numbers that the loop has in hand.
    pub band_at : {here next own price : ℕ} → i < length firsts → i < length prices
        → here ≡ next_on rounds (drop i firsts) → next ≡ next_on rounds (drop (i + 1) firsts) → own ≡ here - next → price ≡ get_or prices i 0
        → by_bands rounds (drop i firsts) (drop i prices) ≡ own * price + by_bands rounds (drop (i + 1) firsts) (drop (i + 1) prices)
    band_at below enough is_here is_next is_own is_price =
        rw (is_own, is_here, is_next, is_price, add-one, drop-cons firsts i 0 below, drop-cons prices i 0 enough)

-- A band's cents: at most 2^32 rounds at the highest price.
pub band_small : {here own price lent : ℕ} (next : ℕ) → own ≡ here - next → here ≤ 4294967296 → price ≡ lent → lent ≤ max_price →
    own * price ≤ 4294967296 * max_price
band_small {here} {own} {price} {lent} next is_own few is_price cheap =
    let fewer : own ≤ 4294967296 = omega arith in
    let cheaper : price ≤ max_price = omega arith in
    mul-le-mul fewer cheaper

-- The risen sum, with fewer changes than unknowns.
pub risen_fits : (sum changes : ℕ) → sum < 2 ^ 50 → changes < max_unknowns → sum * (1000 + 15 * changes) < 2 ^ 63
risen_fits sum changes small few =
    let times : 1000 + 15 * changes ≤ 2905 = omega arith in
    let most : sum ≤ 1125899906842623 = omega arith in
    omega (arith, mul-le-mul most times)
