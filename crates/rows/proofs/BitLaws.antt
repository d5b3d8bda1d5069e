-- Bits of numbers: a number below 2^n is its n lowest bits.
-- Assumes nothing.
use mathlib.Core.Path.{◌≡◌, refl, sym, ap, ◌∙◌}
use mathlib.Core.Bool.{Bool, true, false, ◌||◌}
use mathlib.Core.List.{List, [], ◌∷◌}
use Prim.Native.Nat.{ℕ, zero, suc, ◌+◌, ◌*◌, ◌/◌, ◌%◌, ◌^◌, ◌≤◌, ◌<◌, max, zero-le, suc-le-suc}
use native.Mathlib.Nat.{le_of_suc-le-suc, not-suc-le-zero, zero-div, div-one, one-mul, div-div-eq-div-mul, pow-succ'}
use native.Mathlib.Omega.{arith}
use lib.Bits.{bit_or, or_step, or_shr}
use lib.Dec.{eqb, eqb-zero-suc, eqb-suc-zero, eqb-suc-suc}
use lib.ListN.{length, get_or}
use lib.Pow.{shl_exact}
use borrow.Author.Tests.{eqb-true, eqb-false, eq-eqb, ne_eqb}
use Rattle.preference.specs.Preference.{odd}
use Rattle.rows.specs.Row.{weight, number}

-- Shifting by one place more is halving first.
shift_suc : (n t : ℕ) → n / 2 ^ suc t ≡ n / 2 / 2 ^ t
shift_suc n t = ap (λ (d : ℕ). n / d) (pow-succ' 2 t) ∙ sym (div-div-eq-div-mul n 2 (2 ^ t))

pub odd_zero : (t : ℕ) → odd (0 / 2 ^ t) ≡ false
odd_zero t = ap odd (zero-div (2 ^ t))

-- The lowest bit is the remainder.
mod_is_weight : (n : ℕ) → n % 2 ≡ weight (odd n)
mod_is_weight n = go (odd n) refl
  where
    go : (v : Bool) → odd n ≡ v → n % 2 ≡ weight v
    go true e = eqb-true (n % 2) 1 e
    go false e = let other = eqb-false (n % 2) 1 e in omega arith

odd_cons : (v : Bool) (n : ℕ) → odd (weight v + n * 2) ≡ v
odd_cons true n = eq-eqb ((1 + n * 2) % 2) 1 (omega arith)
odd_cons false n = ne_eqb ((0 + n * 2) % 2) 1 (omega arith)

half_cons : (v : Bool) (n : ℕ) → (weight v + n * 2) / 2 ≡ n
half_cons true n = omega arith
half_cons false n = omega arith

-- Bit t of the number of some values is value t.
pub bit_number : (vs : List Bool) (t : ℕ) → odd (number vs / 2 ^ t) ≡ get_or vs t false
bit_number [] t = odd_zero t
bit_number (v ∷ vs) zero = ap odd (div-one (weight v + number vs * 2)) ∙ odd_cons v (number vs)
bit_number (v ∷ vs) (suc t) =
    ap odd (shift_suc (weight v + number vs * 2) t)
    ∙ ap (λ (n : ℕ). odd (n / 2 ^ t)) (half_cons v (number vs))
    ∙ bit_number vs t

weight_cons_below : (v : Bool) (n p : ℕ) → n < p → weight v + n * 2 < 2 * p
weight_cons_below true n p h = omega arith
weight_cons_below false n p h = omega arith

-- The number of at most n values is below 2^n.
pub number_below : (n : ℕ) (vs : List Bool) → length vs ≤ n → number vs < 2 ^ n
number_below zero [] h = omega arith
number_below zero (v ∷ vs) h = absurd (not-suc-le-zero h)
number_below (suc n) [] h = let p = number_below n [] zero-le in omega (arith, pow-succ' 2 n)
number_below (suc n) (v ∷ vs) h =
    let p = weight_cons_below v (number vs) (2 ^ n) (number_below n vs (le_of_suc-le-suc h)) in omega (arith, pow-succ' 2 n)

-- Two numbers below 2^n with the same n bits are equal.
pub bits_determine : (n x y : ℕ) → x < 2 ^ n → y < 2 ^ n → ((t : ℕ) → t < n → odd (x / 2 ^ t) ≡ odd (y / 2 ^ t)) → x ≡ y
bits_determine zero x y hx hy same = omega arith
bits_determine (suc n) x y hx hy same =
    let low : odd x ≡ odd y = sym (ap odd (div-one x)) ∙ same zero (suc-le-suc zero-le) ∙ ap odd (div-one y) in
    let rest : x % 2 ≡ y % 2 = mod_is_weight x ∙ ap weight low ∙ sym (mod_is_weight y) in
    let high : x / 2 ≡ y / 2 =
    bits_determine n (x / 2) (y / 2) (omega (arith, pow-succ' 2 n)) (omega (arith, pow-succ' 2 n))
    (λ t h. sym (ap odd (shift_suc x t)) ∙ same (suc t) (suc-le-suc h) ∙ ap odd (shift_suc y t)) in
    omega arith

-- The weight of bit k in its byte, as the code makes it: a shift that keeps eight bits.
pub bit_weight : (k : ℕ) → 1 * 2 ^ (k % 8) % 256 ≡ 2 ^ (k % 8)
bit_weight k = shl_exact 1 (k % 8) 8 (omega arith) (omega arith) ∙ one-mul (2 ^ (k % 8))

-- The lowest bit of two numbers' union.
odd_or : (a b : ℕ) → odd (bit_or a b) ≡ odd a || odd b
odd_or a b = ap odd (or_step a b) ∙ go (odd a) (odd b) (mod_is_weight a) (mod_is_weight b)
  where
    go : (u v : Bool) → a % 2 ≡ weight u → b % 2 ≡ weight v → odd (bit_or (a / 2) (b / 2) * 2 + max (a % 2) (b % 2)) ≡ u || v
    go true v ha hb = eq-eqb ((bit_or (a / 2) (b / 2) * 2 + max (a % 2) (b % 2)) % 2) 1 (omega arith)
    go false true ha hb = eq-eqb ((bit_or (a / 2) (b / 2) * 2 + max (a % 2) (b % 2)) % 2) 1 (omega arith)
    go false false ha hb = ne_eqb ((bit_or (a / 2) (b / 2) * 2 + max (a % 2) (b % 2)) % 2) 1 (omega arith)

-- The only bit of 2^j is bit j.
odd_pow : (j s : ℕ) → odd (2 ^ j / 2 ^ s) ≡ eqb j s
odd_pow zero zero = refl
odd_pow zero (suc s) = ap odd (shift_suc 1 s) ∙ odd_zero s ∙ sym (eqb-zero-suc s)
odd_pow (suc j) zero =
    ap odd (div-one (2 ^ suc j) ∙ pow-succ' 2 j)
    ∙ ne_eqb (2 * 2 ^ j % 2) 1 (omega arith)
    ∙ sym (eqb-suc-zero j)
odd_pow (suc j) (suc s) =
    let half : 2 ^ suc j / 2 ≡ 2 ^ j = omega (arith, pow-succ' 2 j) in
    ap odd (shift_suc (2 ^ suc j) s) ∙ ap (λ (n : ℕ). odd (n / 2 ^ s)) half ∙ odd_pow j s ∙ sym (eqb-suc-suc j s)

-- Bit s of a number whose bit j is set besides.
pub odd_with_bit : (x j s : ℕ) → odd (bit_or x (2 ^ j) / 2 ^ s) ≡ odd (x / 2 ^ s) || eqb j s
odd_with_bit x j s =
    ap odd (or_shr x (2 ^ j) s) ∙ odd_or (x / 2 ^ s) (2 ^ j / 2 ^ s) ∙ ap (λ (v : Bool). odd (x / 2 ^ s) || v) (odd_pow j s)
