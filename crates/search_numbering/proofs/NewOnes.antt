-- The numbers of a list, each once, by the first place: which they are, how many, and at which index. Assumes nothing.
use Prim.Native.Nat.{ℕ, zero, suc, ◌≤◌, ◌<◌}
use mathlib.Core.Path.{◌≡◌, refl, ap, ◌∙◌}
use mathlib.Core.Bool.{Bool, true, false, ◌||◌}
use mathlib.Core.List.{List, [], ◌∷◌, ◌++◌, map}
use mathlib.Core.Logic.{◌⊎◌, inl, inr, ⊎_elim}
use native.Mathlib.Omega.{arith}
use lib.Dec.{eqb}
use lib.ListN.{length, get_or}
use borrow.Author.Tests.{eqb-true, eq-eqb}
use Rattle.expansion.proofs.Booleans.{true_or_false, never_both, false_if_not_true}
use Rattle.search_numbering.specs.Numbering.{member, new_ones, index_of}

or_true : (a b : Bool) → b ≡ true → a || b ≡ true
or_true true b h = refl
or_true false b h = h

or_false : (a b : Bool) → a || b ≡ false → (a ≡ false) × (b ≡ false)
or_false true b h = absurd (never_both refl h)
or_false false b h = (refl, h)

pub member_map : (f : ℕ → ℕ) (xs : List ℕ) (r : ℕ) → r < length xs → member (f (get_or xs r 0)) (map f xs) ≡ true
member_map f [] r h = absurd (omega arith)
member_map f (x ∷ xs) zero h = rw (eq-eqb (f x) (f x) refl)
member_map f (x ∷ xs) (suc r) h = or_true (eqb (f (get_or xs r 0)) (f x)) (member (f (get_or xs r 0)) (map f xs)) (member_map f xs r (omega arith))

pub length_new_ones : (seen xs : List ℕ) → length (new_ones seen xs) ≤ length xs
length_new_ones seen [] = omega arith
length_new_ones seen (x ∷ xs) =
    ⊎_elim
    (λ (p : member x seen ≡ true). rw p (let h = length_new_ones seen xs in omega arith))
    (λ (p : member x seen ≡ false). rw p (let h = length_new_ones (x ∷ seen) xs in omega arith))
    (true_or_false (member x seen))

module _ (x : ℕ) where
  member_equal : (y : ℕ) (ys : List ℕ) → eqb x y ≡ true → member x ys ≡ member y ys
  member_equal y ys e = ap (λ (z : ℕ). member z ys) (eqb-true x y e)

  -- What is not seen yet stands among the new ones exactly if it stands in the list.
  pub member_new_ones : (seen xs : List ℕ) → member x seen ≡ false → member x (new_ones seen xs) ≡ member x xs
  member_new_ones seen [] unseen = refl
  member_new_ones seen (y ∷ xs) unseen =
      ⊎_elim
      (λ (p : member y seen ≡ true).
      let other : eqb x y ≡ false = false_if_not_true (eqb x y) (λ e. never_both (member_equal y seen e ∙ p) unseen) in
      rw (p, other) (member_new_ones seen xs unseen))
      (λ (p : member y seen ≡ false).
      rw p
      (⊎_elim
      (λ (e : eqb x y ≡ true). rw e)
      (λ (e : eqb x y ≡ false). rw e (member_new_ones (y ∷ seen) xs (rw e unseen)))
      (true_or_false (eqb x y))))
      (true_or_false (member y seen))

  -- One more at the end: nothing changes if it was met before ..
  pub new_ones_met : (seen xs : List ℕ) → (member x seen ≡ true) ⊎ (member x xs ≡ true) → new_ones seen (xs ++ (x ∷ [])) ≡ new_ones seen xs
  new_ones_met seen [] (inl p) = rw p
  new_ones_met seen [] (inr p) = absurd (never_both p refl)
  new_ones_met seen (y ∷ xs) h =
      ⊎_elim
      (λ (p : member y seen ≡ true). rw p (new_ones_met seen xs (⊎_elim inl (before p) h)))
      (λ (p : member y seen ≡ false). rw p
      (ap (λ (l : List ℕ). y ∷ l) (new_ones_met (y ∷ seen) xs (⊎_elim (λ s. inl (or_true (eqb x y) (member x seen) s)) here h))))
      (true_or_false (member y seen))
    where
      before : member y seen ≡ true → eqb x y || member x xs ≡ true → (member x seen ≡ true) ⊎ (member x xs ≡ true)
      before p m =
          ⊎_elim
          (λ (e : eqb x y ≡ true). inl (member_equal y seen e ∙ p))
          (λ (e : eqb x y ≡ false). inr (rw e at m))
          (true_or_false (eqb x y))

      here : eqb x y || member x xs ≡ true → (eqb x y || member x seen ≡ true) ⊎ (member x xs ≡ true)
      here m =
          ⊎_elim
          (λ (e : eqb x y ≡ true). inl (rw e))
          (λ (e : eqb x y ≡ false). inr (rw e at m))
          (true_or_false (eqb x y))

  -- .. else it stands at the end of the new ones.
  pub new_ones_unmet : (seen xs : List ℕ) → member x seen ≡ false → member x xs ≡ false → new_ones seen (xs ++ (x ∷ [])) ≡ new_ones seen xs ++ (x ∷ [])
  new_ones_unmet seen [] unseen out = rw unseen
  new_ones_unmet seen (y ∷ xs) unseen out =
      let both = or_false (eqb x y) (member x xs) out in
      ⊎_elim
      (λ (p : member y seen ≡ true). rw p (new_ones_unmet seen xs unseen both.1))
      (λ (p : member y seen ≡ false). rw p (ap (λ (l : List ℕ). y ∷ l) (new_ones_unmet (y ∷ seen) xs (rw both.0 unseen) both.1)))
      (true_or_false (member y seen))

  pub index_of_end : (xs : List ℕ) → member x xs ≡ false → index_of x (xs ++ (x ∷ [])) ≡ length xs
  index_of_end [] out = rw (eq-eqb x x refl)
  index_of_end (y ∷ xs) out =
      let both = or_false (eqb x y) (member x xs) out in
      rw both.0 (ap suc (index_of_end xs both.1))

  pub member_end : (xs : List ℕ) → member x (xs ++ (x ∷ [])) ≡ true
  member_end [] = rw (eq-eqb x x refl)
  member_end (y ∷ xs) = or_true (eqb x y) (member x (xs ++ (x ∷ []))) (member_end xs)

  pub index_of_append : (xs ys : List ℕ) → member x xs ≡ true → index_of x (xs ++ ys) ≡ index_of x xs
  index_of_append [] ys h = absurd (never_both h refl)
  index_of_append (y ∷ xs) ys h =
      ⊎_elim
      (λ (e : eqb x y ≡ true). rw e)
      (λ (e : eqb x y ≡ false). rw e (ap suc (index_of_append xs ys (rw e at h))))
      (true_or_false (eqb x y))

  pub member_append_other : (xs : List ℕ) (z : ℕ) → eqb x z ≡ false → member x (xs ++ (z ∷ [])) ≡ member x xs
  member_append_other [] z other = rw other
  member_append_other (y ∷ xs) z other = ap (λ (b : Bool). eqb x y || b) (member_append_other xs z other)
