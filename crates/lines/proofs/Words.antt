-- Words by their decimal value, and without their sign. Assumes nothing.
use Prim.Native.Nat.{ℕ, ◌+◌, ◌-◌, ◌*◌, ◌≤◌, ◌<◌, min}
use mathlib.Core.Path.{◌≡◌, refl, sym, ◌∙◌}
use mathlib.Core.Bool.{Bool, true, false, cond, ◌&&◌}
use mathlib.Core.List.{[], ◌∷◌}
use native.Mathlib.Omega.{arith}
use borrow.Author.Tests.{eq-eqb, ne_eqb, eqb-true, eqb-false, leb-true, leb-false, le-leb, lt-leb}
use lib.Dec.{leb, eqb}
use lib.ListN.{length, get_or, take, drop, length-drop}
use lib.Seq.{take_all}
use Rattle.lines.specs.Lines.{Bytes}
use Rattle.lines.specs.Numbers.{is_digit, all_digits, is_zero, value, no_number, number_shape, number_within, max_digits, number, negative, unsigned}

-- The value of digits, or no number.
abbrev pub decimal_from : ℕ → Bytes → ℕ
decimal_from v w = cond (all_digits w) (value v w) no_number

module _ (most : ℕ) (w : Bytes) where
  pub number_short : length w < 1 → number_within most w ≡ no_number
  unfolding number_within number_shape
  number_short h = rw (lt-leb 1 (length w) h) refl

  pub number_long : min most 9 < length w → number_within most w ≡ no_number
  unfolding number_within number_shape
  number_long h = rw (le-leb 1 (length w) (omega arith), lt-leb (length w) (min most 9) h) refl

  module _ (one : 1 ≤ length w) (few : length w ≤ min most 9) where
    pub number_single : length w ≡ 1 → number_within most w ≡ decimal_from 0 w
    unfolding number_within number_shape
    number_single h = rw (le-leb 1 (length w) one, le-leb (length w) (min most 9) few, eq-eqb (length w) 1 h) refl

    pub number_leading : (length w ≡ 1 → ⊥) → get_or w 0 0 ≡ 48 → number_within most w ≡ no_number
    unfolding number_within number_shape
    number_leading h k = rw (le-leb 1 (length w) one, le-leb (length w) (min most 9) few, ne_eqb (length w) 1 h, k) refl

    pub number_decimal : (length w ≡ 1 → ⊥) → (get_or w 0 0 ≡ 48 → ⊥) → number_within most w ≡ decimal_from 0 w
    unfolding number_within number_shape
    number_decimal h k = rw (le-leb 1 (length w) one, le-leb (length w) (min most 9) few, ne_eqb (length w) 1 h, ne_eqb (get_or w 0 0) 48 k) refl

-- A number is 0 only as the single digit 0.
value_some : (v : ℕ) (w : Bytes) → 1 ≤ v → decimal_from v w ≡ 0 → ⊥
value_some v [] h e = omega arith
value_some v (d ∷ ds) h e = go (is_digit d) (value_some (v * 10 + (d - 48)) ds (omega arith)) e
  where
    go : (t : Bool) → (decimal_from (v * 10 + (d - 48)) ds ≡ 0 → ⊥) → ◌≡◌ {A = ℕ} (cond (t && all_digits ds) (value (v * 10 + (d - 48)) ds) no_number) 0 → ⊥
    go true ih e = ih e
    go false ih e = omega arith

first_some : (d : ℕ) (ds : Bytes) → (d ≡ 48 → ⊥) → decimal_from 0 (d ∷ ds) ≡ 0 → ⊥
first_some d ds h e = go (leb 48 d) (leb d 57) refl e
  where
    go : (a b : Bool) → leb 48 d ≡ a → ◌≡◌ {A = ℕ} (cond ((a && b) && all_digits ds) (value (0 * 10 + (d - 48)) ds) no_number) 0 → ⊥
    go true true p e = value_some (0 * 10 + (d - 48)) ds (omega (arith, leb-true 48 d p)) e
    go true false p e = omega arith
    go false b p e = omega arith

longer_some : (w : Bytes) → (length w ≡ 1 → ⊥) → number w ≡ 0 → ⊥
longer_some [] h e = omega (arith, number_short max_digits [] (omega arith))
longer_some (d ∷ ds) h e = go (leb (length (d ∷ ds)) max_digits) (eqb d 48) refl refl
  where
    go : (a b : Bool) → leb (length (d ∷ ds)) max_digits ≡ a → eqb d 48 ≡ b → ⊥
    go false b p q = omega (arith, number_long max_digits (d ∷ ds) (leb-false (length (d ∷ ds)) max_digits p))
    go true true p q = omega (arith, number_leading max_digits (d ∷ ds) (omega arith) (leb-true (length (d ∷ ds)) max_digits p) h (eqb-true d 48 q))
    go true false p q =
        first_some d ds (eqb-false d 48 q)
        (sym (number_decimal max_digits (d ∷ ds) (omega arith) (leb-true (length (d ∷ ds)) max_digits p) h (eqb-false d 48 q)) ∙ e)

pub zero_longer : (w : Bytes) → (length w ≡ 1 → ⊥) → is_zero w ≡ false
zero_longer w h = ne_eqb (number w) 0 (longer_some w h)

pub zero_single : (w : Bytes) → length w ≡ 1 → is_zero w ≡ eqb (get_or w 0 0) 48
zero_single [] h = absurd (omega arith)
zero_single (d ∷ y ∷ ys) h = absurd (omega arith)
zero_single (d ∷ []) h = go (eqb d 48) refl
  where
    one : number (d ∷ []) ≡ decimal_from 0 (d ∷ [])
    one = number_single max_digits (d ∷ []) (omega arith) (omega arith) h

    go : (t : Bool) → eqb d 48 ≡ t → is_zero (d ∷ []) ≡ t
    go true q = eq-eqb (number (d ∷ [])) 0 (one ∙ rw (eqb-true d 48 q) refl)
    go false q = ne_eqb (number (d ∷ [])) 0 (λ e. first_some d [] (eqb-false d 48 q) (sym one ∙ e))

pub unsigned_minus : (w : Bytes) → negative w ≡ true → take (length w - 1) (drop 1 w) ≡ unsigned w
unfolding unsigned
unsigned_minus w h = rw (h, take_all (length w - 1) (drop 1 w) (omega (arith, length-drop 1 w))) refl

pub unsigned_plain : (w : Bytes) → negative w ≡ false → w ≡ unsigned w
unfolding unsigned
unsigned_plain w h = rw h refl
