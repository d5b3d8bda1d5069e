-- What `io::decimal` promises is the decimal form of `specs/Report.antt`. Assumes nothing.
use mathlib.Core.Path.{◌≡◌}
use Prim.Native.Nat.{ℕ, zero, suc, ◌+◌, ◌/◌, ◌%◌, ◌^◌, ◌-◌, ◌≤◌, ◌<◌}
use native.Mathlib.Nat.{pow-suc, pow-le-pow_right, one-le-pow}
use native.Mathlib.Decide.{dec_le}
use native.Mathlib.Numerals.{sub-one}
use native.Mathlib.Omega.{arith}
use borrow.Author.Tests.{lt-ltb, le-ltb}
use Rattle.io.specs.Digits.{last_digits, hex_digit_ascii, IsDigitCount}
use Rattle.report.specs.Report.{decimal, decimal_within}

glyph_digit : (n : ℕ) → hex_digit_ascii (n % 10) ≡ 48 + n % 10
glyph_digit n = simp (lt-ltb (n % 10) 10 (omega arith))

-- A number of two digits or more is at least the power of ten of its leading digit.
leading : (k n : ℕ) → IsDigitCount 10 1 n (suc (suc k)) → 10 ^ suc k ≤ n
leading k n fewest = rw sub-one at (fewest.2 (omega arith))

-- The front of a number, all but its last digit, has one digit less.
fewest_front : (k n : ℕ) → IsDigitCount 10 1 n (suc (suc k)) → IsDigitCount 10 1 (n / 10) (suc k)
fewest_front k n fewest = (
  omega arith,
  omega (arith, pow-suc 10 (suc k)),
  λ more. rw sub-one (omega (arith, pow-suc 10 k, leading k n fewest)),
)

digits_decimal_within : (places k n : ℕ) → k ≤ places → IsDigitCount 10 1 n k → last_digits 10 k n ≡ decimal_within places n
digits_decimal_within places zero n room fewest = absurd (omega arith)
digits_decimal_within zero (suc k) n room fewest = absurd (omega arith)
digits_decimal_within (suc places) (suc zero) n room fewest = simp (glyph_digit n, lt-ltb n 10 (omega arith))
digits_decimal_within (suc places) (suc (suc k)) n room fewest =
    let front = digits_decimal_within places (suc k) (n / 10) (omega arith) (fewest_front k n fewest) in
    let long : 10 ≤ n = omega (arith, leading k n fewest, pow-suc 10 k, one-le-pow k 10 (omega arith)) in
    simp (front, glyph_digit n, le-ltb n 10 long)

-- A number below a power of ten has at most as many digits as the exponent says.
fewest_le : (places k n : ℕ) → n < 10 ^ places → 0 < places → IsDigitCount 10 1 n k → k ≤ places
fewest_le places k n small some fewest = go (dec_le k places)
  where
    go : Dec (k ≤ places) → k ≤ places
    go (yes fits) = fits
    go (no longer) =
        absurd (omega (arith, fewest.2 (omega arith), pow-le-pow_right {n = 10} (omega arith) {i = places} {j = k - 1} (omega arith)))

-- An unsigned 64-bit number has at most twenty digits.
module _ (k n : ℕ) (small : n < 2 ^ 64) (fewest : IsDigitCount 10 1 n k) where
  pub at_most_twenty : k ≤ 20
  at_most_twenty = fewest_le 20 k n (omega arith) (omega arith) fewest

  pub digits_decimal : last_digits 10 k n ≡ decimal n
  unfolding decimal
  digits_decimal = digits_decimal_within 20 k n at_most_twenty fewest
