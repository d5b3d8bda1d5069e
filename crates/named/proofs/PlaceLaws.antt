-- The position of a name among others. Assumes nothing.
use Prim.Native.Nat.{ℕ, suc, ◌+◌, ◌≤◌}
use native.Mathlib.Omega.{arith}
use mathlib.Core.Path.{◌≡◌, refl, ap, ◌∙◌}
use mathlib.Core.Bool.{Bool, true, false, cond}
use mathlib.Core.List.{List, [], ◌∷◌, ◌++◌}
use mathlib.Core.Logic.{inl, inr}
use borrow.Author.Tests.{eq-eqb, ne_eqb}
use lib.Dec.{eqb}
use lib.ListN.{length}
use Rattle.named.specs.Named.{place_from, position}
use Rattle.named.specs.Names.{In}

-- A name behind others, none of which it is, has the place behind theirs.
pub place_new : (k v : ℕ) (names : List ℕ) → place_from (suc k) v names ≡ 0 → place_from (suc k) v (names ++ (v ∷ [])) ≡ suc k + length names
place_new k v [] h = rw (eq-eqb v v refl) (omega arith)
place_new k v (x ∷ xs) h = go (eqb x v) (place_new (suc k) v xs) h
  where
    go : (t : Bool) → (place_from (suc (suc k)) v xs ≡ 0 → place_from (suc (suc k)) v (xs ++ (v ∷ [])) ≡ suc (suc k) + length xs)
        → cond t (suc k) (place_from (suc (suc k)) v xs) ≡ 0 → cond t (suc k) (place_from (suc (suc k)) v (xs ++ (v ∷ []))) ≡ suc k + suc (length xs)
    go true ih h = absurd (omega arith)
    go false ih h = ih h ∙ omega arith

-- The places of other names stay.
pub place_other : (k v w : ℕ) (names : List ℕ) → (v ≡ w → ⊥) → place_from k w (names ++ (v ∷ [])) ≡ place_from k w names
place_other k v w [] h = rw (ne_eqb v w h) refl
place_other k v w (x ∷ xs) h = ap (cond (eqb x w) k) (place_other (suc k) v w xs h)

-- A name that has a place keeps it.
pub place_kept : (k w : ℕ) (names more : List ℕ) → (place_from (suc k) w names ≡ 0 → ⊥) → place_from (suc k) w (names ++ more) ≡ place_from (suc k) w names
place_kept k w [] more h = absurd (h refl)
place_kept k w (x ∷ xs) more h = go (eqb x w) (place_kept (suc k) w xs more) h
  where
    go : (t : Bool) → ((place_from (suc (suc k)) w xs ≡ 0 → ⊥) → place_from (suc (suc k)) w (xs ++ more) ≡ place_from (suc (suc k)) w xs)
        → (cond t (suc k) (place_from (suc (suc k)) w xs) ≡ 0 → ⊥)
        → cond t (suc k) (place_from (suc (suc k)) w (xs ++ more)) ≡ cond t (suc k) (place_from (suc (suc k)) w xs)
    go true ih h = refl
    go false ih h = ih h

-- A name that is not there has no place.
place_none : (k v : ℕ) (names : List ℕ) → (In v names → ⊥) → place_from k v names ≡ 0
place_none k v [] none = refl
place_none k v (x ∷ xs) none = rw (ne_eqb x v (λ e. none (inl e))) (place_none (suc k) v xs (λ i. none (inr i)))

pub position_none : (v : ℕ) (names : List ℕ) → (In v names → ⊥) → position v names ≡ 0
unfolding position
position_none v names none = place_none 1 v names none

-- A position is one of 1 to n, or 0.
place_within : (k v : ℕ) (names : List ℕ) → place_from (suc k) v names ≤ k + length names
place_within k v [] = omega arith
place_within k v (x ∷ xs) = go (eqb x v) (place_within (suc k) v xs)
  where
    go : (t : Bool) → place_from (suc (suc k)) v xs ≤ suc k + length xs → cond t (suc k) (place_from (suc (suc k)) v xs) ≤ k + suc (length xs)
    go true ih = omega arith
    go false ih = omega (arith, ih)

pub position_within : (v : ℕ) (names : List ℕ) → position v names ≤ length names
unfolding position
position_within v names = omega (arith, place_within 0 v names)
