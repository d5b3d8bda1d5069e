-- Lists of values: those of a function at 0, 1, .., and whether one of them is true.
-- Assumes nothing.
use mathlib.Core.Path.{◌≡◌, refl, sym, ap, ◌∙◌}
use mathlib.Core.Bool.{Bool, true, false, ◌||◌, true≢false, not-eq-not}
use mathlib.Core.List.{List, [], ◌∷◌}
use Prim.Native.Nat.{ℕ, zero, suc, ◌<◌}
use native.Mathlib.Nat.{le_of_suc-le-suc, not-suc-le-zero}
use native.Mathlib.Decide.{dec_lt}
use native.Mathlib.Omega.{arith}
use lib.ListN.{length, get_or, get_or-eq_default}
use Rattle.formula.specs.Causes.{any}
use Rattle.rows.specs.Row.{values}

pub length_values : (m : ℕ) (f : ℕ → Bool) → length (values m f) ≡ m
length_values zero f = refl
length_values (suc m) f = ap suc (length_values m (λ i. f (suc i)))

pub get_or_values : (m : ℕ) (f : ℕ → Bool) (k : ℕ) → k < m → get_or (values m f) k false ≡ f k
get_or_values zero f k h = absurd (not-suc-le-zero h)
get_or_values (suc m) f zero h = refl
get_or_values (suc m) f (suc k) h = get_or_values m (λ i. f (suc i)) k (le_of_suc-le-suc h)

-- Values that are all false are false past the end too.
pub values_false : (m : ℕ) (f : ℕ → Bool) → ((k : ℕ) → k < m → f k ≡ false) → (k : ℕ) → get_or (values m f) k false ≡ false
values_false m f none k = go (dec_lt k m)
  where
    go : Dec (k < m) → get_or (values m f) k false ≡ false
    go (yes h) = get_or_values m f k h ∙ none k h
    go (no h) = get_or-eq_default (values m f) false (omega (arith, length_values m f))

pub any_false : (vs : List Bool) → any (λ v. v) vs ≡ false → (k : ℕ) → get_or vs k false ≡ false
any_false [] e k = refl
any_false (true ∷ vs) e k = absurd (true≢false e)
any_false (false ∷ vs) e zero = refl
any_false (false ∷ vs) e (suc k) = any_false vs e k

pub none_any : (vs : List Bool) → ((k : ℕ) → get_or vs k false ≡ false) → any (λ v. v) vs ≡ false
none_any [] none = refl
none_any (v ∷ vs) none = ap (λ (u : Bool). u || any (λ v. v) vs) (none zero) ∙ none_any vs (λ k. none (suc k))

pub found_any : (vs : List Bool) (k : ℕ) → get_or vs k false ≡ true → any (λ v. v) vs ≡ true
found_any vs k found = (not-eq-not {b = true}).0 (λ e. true≢false (sym found ∙ any_false vs e k))
