-- Laws of the fresh rows, taken one more at a time. Assumes nothing.
use Prim.Native.Nat.{ℕ, zero, suc, ◌≤◌, zero-le, suc-le-suc}
use native.Mathlib.Omega.{arith}
use mathlib.Core.Path.{◌≡◌, ap}
use mathlib.Core.Bool.{true, false}
use mathlib.Core.List.{List, [], ◌∷◌, ◌++◌}
use mathlib.Core.Logic.{◌⊎◌, inl, inr, ⊎_elim}
use lib.ListN.{length, take}
use Rattle.expansion.specs.Play.{Row}
use Rattle.expansion.specs.Copies.{among, fresh}
use Rattle.expansion.proofs.Booleans.{true_or_false}
use Rattle.expansion.proofs.Membership.{In, among_in, in_among, not_in_among}

-- A row that is seen, or stands before, adds nothing.
pub fresh_old : (x : Row) (seen rows : List Row) → In x seen ⊎ In x rows → fresh seen (rows ++ (x ∷ [])) ≡ fresh seen rows
fresh_old x seen [] (inl h) = rw (in_among x seen h)
fresh_old x seen [] (inr h) = absurd h
fresh_old x seen (y ∷ rows) h =
    ⊎_elim
    (λ (p : among y seen ≡ true). rw p (fresh_old x seen rows (still p h)))
    (λ (p : among y seen ≡ false). rw p (ap (λ (l : List Row). y ∷ l) (fresh_old x (y ∷ seen) rows (moved h))))
    (true_or_false (among y seen))
  where
    moved : In x seen ⊎ In x (y ∷ rows) → In x (y ∷ seen) ⊎ In x rows
    moved (inl s) = inl (inr s)
    moved (inr (inl e)) = inl (inl e)
    moved (inr (inr l)) = inr l

    still : among y seen ≡ true → In x seen ⊎ In x (y ∷ rows) → In x seen ⊎ In x rows
    still p (inl s) = inl s
    still p (inr (inl e)) = inl (rw e (among_in y seen p))
    still p (inr (inr l)) = inr l

-- A row that is neither comes behind the others.
pub fresh_new : (x : Row) (seen rows : List Row) → (In x seen → ⊥) → (In x rows → ⊥)
    → fresh seen (rows ++ (x ∷ [])) ≡ fresh seen rows ++ (x ∷ [])
fresh_new x seen [] unseen before = rw (not_in_among x seen unseen)
fresh_new x seen (y ∷ rows) unseen before =
    ⊎_elim
    (λ (p : among y seen ≡ true). rw p (fresh_new x seen rows unseen (λ l. before (inr l))))
    (λ (p : among y seen ≡ false).
    rw p (ap (λ (l : List Row). y ∷ l) (fresh_new x (y ∷ seen) rows (⊎_elim (λ e. before (inl e)) unseen) (λ l. before (inr l)))))
    (true_or_false (among y seen))

pub length_fresh_take : (seen rows : List Row) (n : ℕ) → length (fresh seen (take n rows)) ≤ length (fresh seen rows)
length_fresh_take seen [] zero = zero-le
length_fresh_take seen [] (suc n) = zero-le
length_fresh_take seen (x ∷ rows) zero = zero-le
length_fresh_take seen (x ∷ rows) (suc n) =
    ⊎_elim
    (λ (p : among x seen ≡ true). rw p (length_fresh_take seen rows n))
    (λ (p : among x seen ≡ false). rw p (suc-le-suc (length_fresh_take (x ∷ seen) rows n)))
    (true_or_false (among x seen))

-- There are no more fresh rows than rows.
pub length_fresh : (seen rows : List Row) → length (fresh seen rows) ≤ length rows
length_fresh seen [] = zero-le
length_fresh seen (x ∷ rows) =
    ⊎_elim
    (λ (p : among x seen ≡ true). rw p (let h = length_fresh seen rows in omega arith))
    (λ (p : among x seen ≡ false). rw p (suc-le-suc (length_fresh (x ∷ seen) rows)))
    (true_or_false (among x seen))
