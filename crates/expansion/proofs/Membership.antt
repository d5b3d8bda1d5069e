-- A thing stands in a list: the laws of `In` at lists that are joined or mapped, and the tests `same`, `among` and `fresh` of
-- specs/Copies.antt in its terms.
-- Assumes nothing.
use Prim.Native.Nat.{ℕ, zero, suc, ◌<◌}
use native.Mathlib.Omega.{arith}
use mathlib.Core.Path.{◌≡◌, refl, sym, ap, ap₂}
use mathlib.Core.Bool.{Bool, true, false, beq, and-eq-true_iff, false≢true}
use mathlib.Core.List.{List, [], ◌∷◌, ◌++◌, map}
use mathlib.Core.Logic.{◌⊎◌, inl, inr, ⊎_elim, ⊎_map}
use lib.ListN.{length, get_or}
pub use Rattle.formula.specs.Lists.{In, Distinct}
use Rattle.expansion.specs.Play.{Row}
use Rattle.expansion.specs.Copies.{same, among, fresh}
use Rattle.expansion.proofs.Booleans.{true_or_false, never_both, false_if_not_true}

module _ {A : Type 0} where
  pub in_append_left : (x : A) (xs ys : List A) → In x xs → In x (xs ++ ys)
  in_append_left x [] ys h = absurd h
  in_append_left x (y ∷ xs) ys (inl e) = inl e
  in_append_left x (y ∷ xs) ys (inr h) = inr (in_append_left x xs ys h)

  pub in_append_right : (x : A) (xs ys : List A) → In x ys → In x (xs ++ ys)
  in_append_right x [] ys h = h
  in_append_right x (y ∷ xs) ys h = inr (in_append_right x xs ys h)

  pub in_append_cases : (x : A) (xs ys : List A) → In x (xs ++ ys) → In x xs ⊎ In x ys
  in_append_cases x [] ys h = inr h
  in_append_cases x (y ∷ xs) ys (inl e) = inl (inl e)
  in_append_cases x (y ∷ xs) ys (inr h) = ⊎_elim (λ l. inl (inr l)) (λ r. inr r) (in_append_cases x xs ys h)

  pub in_of_place : (xs : List A) (i : ℕ) (d : A) → i < length xs → In (get_or xs i d) xs
  in_of_place [] i d h = absurd (omega arith)
  in_of_place (x ∷ xs) zero d h = inl refl
  in_of_place (x ∷ xs) (suc i) d h = inr (in_of_place xs i d (omega arith))

  pub place_of_in : (x : A) (xs : List A) (d : A) → In x xs → (i : ℕ) × (i < length xs) × (get_or xs i d ≡ x)
  place_of_in x [] d h = absurd h
  place_of_in x (y ∷ xs) d (inl e) = (zero, omega arith, sym e)
  place_of_in x (y ∷ xs) d (inr h) =
      let p = place_of_in x xs d h in
      (suc p.0, omega (arith, p.1), p.2)

  pub distinct_append : (xs ys : List A) → Distinct xs → Distinct ys → ((x : A) → In x xs → In x ys → ⊥) → Distinct (xs ++ ys)
  distinct_append [] ys p q apart = q
  distinct_append (x ∷ xs) ys p q apart =
      (λ h. ⊎_elim p.0 (apart x (inl refl)) (in_append_cases x xs ys h), distinct_append xs ys p.1 q (λ z l r. apart z (inr l) r))

module _ {A B : Type 0} (f : A → B) where
  pub in_map : (x : A) (xs : List A) → In x xs → In (f x) (map f xs)
  in_map x [] h = absurd h
  in_map x (y ∷ xs) (inl e) = inl (ap f e)
  in_map x (y ∷ xs) (inr h) = inr (in_map x xs h)

  pub in_map_cases : (y : B) (xs : List A) → In y (map f xs) → (x : A) × (y ≡ f x) × In x xs
  in_map_cases y [] h = absurd h
  in_map_cases y (x ∷ xs) (inl e) = (x, e, inl refl)
  in_map_cases y (x ∷ xs) (inr h) =
      let p = in_map_cases y xs h in
      (p.0, p.1, inr p.2)

  in_map_back : ((x y : A) → f x ≡ f y → x ≡ y) → (x : A) (xs : List A) → In (f x) (map f xs) → In x xs
  in_map_back one_to_one x xs h =
      let p = in_map_cases (f x) xs h in
      rw (one_to_one x p.0 p.1) p.2

  pub distinct_map : (xs : List A) → ((x y : A) → f x ≡ f y → x ≡ y) → Distinct xs → Distinct (map f xs)
  distinct_map [] one_to_one d = tt
  distinct_map (x ∷ xs) one_to_one d = (λ h. d.0 (in_map_back one_to_one x xs h), distinct_map xs one_to_one d.1)

-- The tests.
pub same_refl : (r : Row) → same r r ≡ true
same_refl [] = refl
same_refl (true ∷ r) = same_refl r
same_refl (false ∷ r) = same_refl r

beq_eq : (a b : Bool) → beq a b ≡ true → a ≡ b
beq_eq true true e = refl
beq_eq true false e = absurd (false≢true e)
beq_eq false true e = absurd (false≢true e)
beq_eq false false e = refl

pub same_eq : (r s : Row) → same r s ≡ true → r ≡ s
same_eq [] [] e = refl
same_eq [] (b ∷ s) e = absurd (false≢true e)
same_eq (a ∷ r) [] e = absurd (false≢true e)
same_eq (a ∷ r) (b ∷ s) e =
    let both = (and-eq-true_iff (beq a b) (same r s)).0 e in
    ap₂ {C = Row} (λ x xs. x ∷ xs) (beq_eq a b both.0) (same_eq r s both.1)

pub equal_or_not : (r s : Row) → (r ≡ s) ⊎ (r ≡ s → ⊥)
equal_or_not r s =
    ⊎_elim
    (λ (p : same r s ≡ true). inl (same_eq r s p))
    (λ (p : same r s ≡ false). inr (λ e. never_both (same_refl s) (rw e at p)))
    (true_or_false (same r s))

pub among_in : (r : Row) (rows : List Row) → among r rows ≡ true → In r rows
among_in r [] e = absurd (false≢true e)
among_in r (x ∷ rows) e =
    ⊎_elim
    (λ (p : same r x ≡ true). inl (same_eq r x p))
    (λ (p : same r x ≡ false). inr (among_in r rows (rw p at e)))
    (true_or_false (same r x))

pub in_among : (r : Row) (rows : List Row) → In r rows → among r rows ≡ true
in_among r [] h = absurd h
in_among r (x ∷ rows) (inl e) = rw (e, same_refl x)
in_among r (x ∷ rows) (inr h) =
    ⊎_elim
    (λ (p : same r x ≡ true). rw p)
    (λ (p : same r x ≡ false). rw p (in_among r rows h))
    (true_or_false (same r x))

pub not_among : (r : Row) (rows : List Row) → among r rows ≡ false → In r rows → ⊥
not_among r rows e h = never_both (in_among r rows h) e

pub not_in_among : (r : Row) (rows : List Row) → (In r rows → ⊥) → among r rows ≡ false
not_in_among r rows h = false_if_not_true (among r rows) (λ e. h (among_in r rows e))

pub in_or_not : (r : Row) (rows : List Row) → In r rows ⊎ (In r rows → ⊥)
in_or_not r rows = ⊎_elim (λ e. inl (among_in r rows e)) (λ e. inr (not_among r rows e)) (true_or_false (among r rows))

-- The fresh rows are those of the list that are not seen yet, each once.
pub in_fresh : (r : Row) (seen rows : List Row) → In r rows → (In r seen → ⊥) → In r (fresh seen rows)
in_fresh r seen [] h unseen = absurd h
in_fresh r seen (x ∷ rows) h unseen =
    let not_first : among x seen ≡ true → r ≡ x → ⊥ = λ p e. unseen (among_in r seen (rw (← e) at p)) in
    let new_ones = fresh (x ∷ seen) rows in
    let later : In r rows → (r ≡ x) ⊎ In r new_ones = λ l. ⊎_map (λ e. e) (λ ne. in_fresh r (x ∷ seen) rows l (⊎_elim ne unseen)) (equal_or_not r x) in
    ⊎_elim
    (λ (p : among x seen ≡ true). rw p (⊎_elim (λ e. absurd (not_first p e)) (λ l. in_fresh r seen rows l unseen) h))
    (λ (p : among x seen ≡ false). rw p (⊎_elim inl later h))
    (true_or_false (among x seen))

pub fresh_in : (r : Row) (seen rows : List Row) → In r (fresh seen rows) → In r rows
fresh_in r seen [] h = h
fresh_in r seen (x ∷ rows) h =
    ⊎_elim
    (λ (p : among x seen ≡ true). inr (fresh_in r seen rows (rw p at h)))
    (λ (p : among x seen ≡ false). ⊎_map (λ e. e) (fresh_in r (x ∷ seen) rows) (rw p at h))
    (true_or_false (among x seen))

pub fresh_unseen : (r : Row) (seen rows : List Row) → In r (fresh seen rows) → In r seen → ⊥
fresh_unseen r seen [] h s = h
fresh_unseen r seen (x ∷ rows) h s =
    let not_first : among x seen ≡ false → r ≡ x → ⊥ = λ p e. not_among x seen p (rw e at s) in
    let not_later : In r (fresh (x ∷ seen) rows) → ⊥ = λ l. fresh_unseen r (x ∷ seen) rows l (inr s) in
    ⊎_elim
    (λ (p : among x seen ≡ true). fresh_unseen r seen rows (rw p at h) s)
    (λ (p : among x seen ≡ false). ⊎_elim (not_first p) not_later (rw p at h))
    (true_or_false (among x seen))

pub distinct_fresh : (seen rows : List Row) → Distinct (fresh seen rows)
distinct_fresh seen [] = tt
distinct_fresh seen (x ∷ rows) =
    ⊎_elim
    (λ (p : among x seen ≡ true). rw p (distinct_fresh seen rows))
    (λ (p : among x seen ≡ false). rw p (λ h. fresh_unseen x (x ∷ seen) rows h (inl refl), distinct_fresh (x ∷ seen) rows))
    (true_or_false (among x seen))

pub distinct_append_fresh : (seen rows : List Row) → Distinct seen → Distinct (seen ++ fresh seen rows)
distinct_append_fresh seen rows d =
    distinct_append seen (fresh seen rows) d (distinct_fresh seen rows) (λ r s h. fresh_unseen r seen rows h s)
