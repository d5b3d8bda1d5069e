-- A number's decimal form is a word, and is read as that number. Assumes nothing.
use Prim.Native.Nat.{ℕ, zero, suc, ◌+◌, ◌-◌, ◌*◌, ◌/◌, ◌%◌, ◌^◌, ◌≤◌, ◌<◌, min}
use native.Mathlib.Nat.{pow-suc}
use native.Mathlib.Omega.{arith}
use mathlib.Core.Path.{◌≡◌, refl, ◌∙◌}
use mathlib.Core.Bool.{Bool, true, false, cond, not, ◌&&◌, ◌||◌, false≢true}
use mathlib.Core.List.{[], ◌∷◌, ◌++◌}
use borrow.Author.Tests.{ltb-true, ltb-false, le-leb, ne_eqb}
use lib.Dec.{leb, ltb, eqb}
use lib.ListN.{length, get_or, length-append, get_or-append}
use Rattle.lines.specs.Lines.{Bytes}
use Rattle.lines.specs.Numbers.{is_digit, all_digits, number_shape, value, number_within, number}
use Rattle.report.specs.Report.{decimal, decimal_within}
use Rattle.report.proofs.Lengths.{digits_most}

-- ---- tests

pub and_so : (a b : Bool) → a ≡ true → b ≡ true → (a && b) ≡ true
and_so true b e f = f
and_so false b e f = e

pub and_both : (a b : Bool) → (a && b) ≡ true → (a ≡ true) × (b ≡ true)
and_both true b e = (refl, e)
and_both false b e = absurd (false≢true e)

or_right : (a b : Bool) → b ≡ true → (a || b) ≡ true
or_right true b e = refl
or_right false b e = e

-- ---- the value

value_behind : (v : ℕ) (ds : Bytes) (d : ℕ) → value v (ds ++ (d ∷ [])) ≡ value v ds * 10 + (d - 48)
value_behind v [] d = refl
value_behind v (x ∷ xs) d = value_behind (v * 10 + (x - 48)) xs d

digits_value : (places n : ℕ) → n < 10 ^ places → value 0 (decimal_within places n) ≡ n
digits_value zero n small = omega (arith, small)
digits_value (suc places) n small = go (ltb n 10) refl (digits_value places (n / 10))
  where
    go : (b : Bool) → ltb n 10 ≡ b → (n / 10 < 10 ^ places → value 0 (decimal_within places (n / 10)) ≡ n / 10)
        → value 0 (cond b [] (decimal_within places (n / 10)) ++ ((48 + n % 10) ∷ [])) ≡ n
    go true e more = omega (arith, ltb-true n 10 e)
    go false e more =
        value_behind 0 (decimal_within places (n / 10)) (48 + n % 10) ∙ omega (arith, more (omega (arith, pow-suc 10 places, small)))

-- ---- the digits

digit_shape : (n : ℕ) → is_digit (48 + n % 10) ≡ true
digit_shape n = and_so (leb 48 (48 + n % 10)) (leb (48 + n % 10) 57) (le-leb 48 (48 + n % 10) (omega arith)) (le-leb (48 + n % 10) 57 (omega arith))

digits_behind : (ds : Bytes) (d : ℕ) → all_digits ds ≡ true → is_digit d ≡ true → all_digits (ds ++ (d ∷ [])) ≡ true
digits_behind [] d a b = and_so (is_digit d) true b refl
digits_behind (x ∷ xs) d a b =
    let both = and_both (is_digit x) (all_digits xs) a in
    and_so (is_digit x) (all_digits (xs ++ (d ∷ []))) both.0 (digits_behind xs d both.1 b)

within_digits : (places n : ℕ) → all_digits (decimal_within places n) ≡ true
within_digits zero n = refl
within_digits (suc places) n = go (ltb n 10) (within_digits places (n / 10))
  where
    go : (b : Bool) → all_digits (decimal_within places (n / 10)) ≡ true → all_digits (cond b [] (decimal_within places (n / 10)) ++ ((48 + n % 10) ∷ [])) ≡ true
    go true more = digits_behind [] (48 + n % 10) refl (digit_shape n)
    go false more = digits_behind (decimal_within places (n / 10)) (48 + n % 10) more (digit_shape n)

within_some : (places n : ℕ) → 1 ≤ length (decimal_within (suc places) n)
within_some places n = omega (arith, length-append (cond (ltb n 10) [] (decimal_within places (n / 10))) ((48 + n % 10) ∷ []))

-- 'No leading zero.'
led : (l : Bytes) → 49 ≤ get_or l 0 0 → 0 < length l
led [] h = absurd (omega (arith, h))
led (x ∷ xs) h = omega arith

leading : (places n : ℕ) → 1 ≤ n → n < 10 ^ places → 49 ≤ get_or (decimal_within places n) 0 0
leading zero n some small = absurd (omega (arith, small))
leading (suc places) n some small = go (ltb n 10) refl (leading places (n / 10))
  where
    go : (b : Bool) → ltb n 10 ≡ b → (1 ≤ n / 10 → n / 10 < 10 ^ places → 49 ≤ get_or (decimal_within places (n / 10)) 0 0)
        → 49 ≤ get_or (cond b [] (decimal_within places (n / 10)) ++ ((48 + n % 10) ∷ [])) 0 0
    go true e more = omega (arith, ltb-true n 10 e)
    go false e more =
        let front = more (omega (arith, ltb-false n 10 e)) (omega (arith, pow-suc 10 places, small)) in
        rw (get_or-append (decimal_within places (n / 10)) ((48 + n % 10) ∷ []) 0 0 (led (decimal_within places (n / 10)) front)) front

-- ---- the whole form

-- Nine digits hold every number that a text may have.
power_grows : (m k : ℕ) → k ≤ m → 10 ^ k ≤ 10 ^ m
power_grows zero zero h = omega arith
power_grows zero (suc k) h = absurd (omega (arith, h))
power_grows (suc m) zero h = omega (arith, pow-suc 10 m, power_grows m zero (omega arith))
power_grows (suc m) (suc k) h = omega (arith, pow-suc 10 m, pow-suc 10 k, power_grows m k (omega (arith, h)))

power_most : (k : ℕ) → k ≤ 9 → 10 ^ k ≤ 1000000000
power_most k few = power_grows 9 k few

pub decimal_some : (n : ℕ) → 1 ≤ length (decimal n)
unfolding decimal
decimal_some n = within_some 19 n

pub decimal_most : (k n : ℕ) → n < 10 ^ suc k → length (decimal n) ≤ suc k
unfolding decimal
decimal_most k n small = digits_most 20 k n small

pub decimal_digits : (n : ℕ) → all_digits (decimal n) ≡ true
unfolding decimal
decimal_digits n = within_digits 20 n

module _ (n : ℕ) (small : n < 1000000000) where
  pub decimal_value : value 0 (decimal n) ≡ n
  unfolding decimal
  decimal_value = digits_value 20 n (omega (arith, small))

pub decimal_front : (n : ℕ) → n < 1000000000 → 48 ≤ get_or (decimal n) 0 0
unfolding decimal
decimal_front zero small = omega arith
decimal_front (suc n) small = omega (arith, leading 20 (suc n) (omega arith) (omega arith))

no_leading_zero : (n : ℕ) → n < 1000000000 → (eqb (length (decimal n)) 1 || not (eqb (get_or (decimal n) 0 0) 48)) ≡ true
unfolding decimal
no_leading_zero zero small = refl
no_leading_zero (suc n) small =
    or_right (eqb (length (decimal_within 20 (suc n))) 1) (not (eqb (get_or (decimal_within 20 (suc n)) 0 0) 48))
    (rw (ne_eqb (get_or (decimal_within 20 (suc n)) 0 0) 48 (λ e. omega (arith, e, leading 20 (suc n) (omega arith) (omega arith)))) refl)

pub number_decimal_within : (k n : ℕ) → suc k ≤ 9 → n < 10 ^ suc k → number_within (suc k) (decimal n) ≡ n
unfolding number_within number_shape
number_decimal_within k n few fits =
    let small : n < 1000000000 = omega (arith, fits, power_most (suc k) few) in
    let w = decimal n in
    let long = and_so (leb 1 (length w)) (leb (length w) (min (suc k) 9)) (le-leb 1 (length w) (decimal_some n)) (le-leb (length w) (min (suc k) 9) (omega (arith, few, decimal_most k n fits))) in
    let led = and_so (leb 1 (length w) && leb (length w) (min (suc k) 9)) (eqb (length w) 1 || not (eqb (get_or w 0 0) 48)) long (no_leading_zero n small) in
    rw (and_so (leb 1 (length w) && leb (length w) (min (suc k) 9) && (eqb (length w) 1 || not (eqb (get_or w 0 0) 48))) (all_digits w) led (decimal_digits n)) (decimal_value n small)

-- 'At most 5 digits', in 01's texts.
pub number_decimal : (n : ℕ) → n < 100000 → number (decimal n) ≡ n
number_decimal n small = number_decimal_within 4 n (omega arith) small

-- The word `0`.
abbrev pub zero_word : Bytes
zero_word = 48 ∷ []
