-- Whether an element of a list passes a test: as a loop over every element finds it, and what it says of each place.
-- Assumes nothing.
use Prim.Native.Nat.{ℕ, zero, suc, ◌+◌, ◌≤◌, ◌<◌}
use mathlib.Core.Path.{◌≡◌, refl, sym, ◌∙◌}
use mathlib.Core.Bool.{Bool, true, false, ◌||◌, or-true, or-false, true≢false}
use mathlib.Core.List.{List, [], ◌∷◌}
use lib.ListN.{length, get_or, drop, drop_of_length-le}
use Rattle.formula.specs.Causes.{any}
use Rattle.formula.proofs.Places.{drop_front}

-- `found` is true if an element before place i passed.
module _ {A : Type 0} (test : A → Bool) (l : List A) (found : Bool) (i : ℕ) (seen : any test l ≡ (found || any test (drop i l))) where
  pub any_found : (d : A) (found' : Bool) → i < length l → test (get_or l i d) ≡ true → found' ≡ true → any test l ≡ (found' || any test (drop (i + 1) l))
  any_found d found' below passes set = seen ∙ rw (drop_front l i d below, passes, set) (or-true found)

  pub any_passed : (d : A) (found' : Bool) → i < length l → test (get_or l i d) ≡ false → found' ≡ found → any test l ≡ (found' || any test (drop (i + 1) l))
  any_passed d found' below fails kept = seen ∙ rw (drop_front l i d below, fails, kept)

  pub any_all : length l ≤ i → found ≡ any test l
  any_all past = sym (seen ∙ rw (drop_of_length-le l past) (or-false found))

pub or_none : (a b : Bool) → (a || b) ≡ false → (a ≡ false) × (b ≡ false)
or_none false b e = (refl, e)
or_none true b e = absurd (true≢false e)

-- Where no element passes a test, none does at any place, if the default past the end does not pass either.
pub any_none : {A : Type 0} (test : A → Bool) (d : A) → test d ≡ false → (l : List A) → any test l ≡ false → (i : ℕ) → test (get_or l i d) ≡ false
any_none test d default [] none i = default
any_none test d default (x ∷ xs) none zero = (or_none (test x) (any test xs) none).0
any_none test d default (x ∷ xs) none (suc i) = any_none test d default xs (or_none (test x) (any test xs) none).1 i

pub none_any : {A : Type 0} (test : A → Bool) (d : A) (l : List A) → ((i : ℕ) → test (get_or l i d) ≡ false) → any test l ≡ false
none_any test d [] none = refl
none_any test d (x ∷ xs) none = rw (none zero) (none_any test d xs (λ i. none (suc i)))

-- An element that passes one test passes another.
pub any_implies : {A : Type 0} (test other : A → Bool) → ((x : A) → test x ≡ true → other x ≡ true) → (l : List A) → any test l ≡ true → any other l ≡ true
any_implies test other implies [] some = some
any_implies {A} test other implies (x ∷ xs) some = go (test x) refl some (any_implies test other implies xs)
  where
    go : (t : Bool) → test x ≡ t → (t || any test xs) ≡ true → (any test xs ≡ true → any other xs ≡ true) → any other (x ∷ xs) ≡ true
    go true passes found later = rw (implies x passes)
    go false fails found later = rw (later found) (or-true (other x))
