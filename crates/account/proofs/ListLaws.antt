-- Entries of two lists in turn, one more at a time. Assumes nothing.
use Prim.Native.Nat.{ℕ, zero, suc, ◌+◌, ◌≤◌, ◌<◌}
use native.Mathlib.Nat.{suc_inj, le_of_suc-le-suc, not-suc-le-zero}
use native.Mathlib.Numerals.{add-one}
use native.Mathlib.Omega.{arith}
use mathlib.Core.Path.{◌≡◌, refl, sym, ap, ap₂, ◌∙◌}
use mathlib.Core.List.{List, [], ◌∷◌, ◌++◌, map, append_assoc, append-nil}
use lib.ListN.{length, take, get_or}
use lib.Seq.{take-suc, length-take-le}
use Rattle.expansion.specs.Play.{Row}
use Rattle.rounds.specs.Run.{Entry, Table, rows, under_mark}
use Rattle.account.specs.Account.{each}
use Rattle.account.specs.Private.Steps.{joined}

pub take_one : {A : Type 0} (l : List A) (i : ℕ) (d : A) → i < length l → take (i + 1) l ≡ take i l ++ (get_or l i d ∷ [])
take_one l i d h = ap (λ (n : ℕ). take n l) (add-one i) ∙ take-suc l i d h

module _ {A B C : Type 0} (f : A → B → List C) where
  each_behind : (xs : List A) (ys : List B) (x : A) (y : B) → length xs ≡ length ys → each f (xs ++ (x ∷ [])) (ys ++ (y ∷ [])) ≡ each f xs ys ++ f x y
  each_behind [] [] x y e = append-nil (f x y)
  each_behind [] (w ∷ ys) x y e = absurd (omega arith)
  each_behind (z ∷ xs) [] x y e = absurd (omega arith)
  each_behind (z ∷ xs) (w ∷ ys) x y e =
      ap (λ (l : List C). f z w ++ l) (each_behind xs ys x y (suc_inj e)) ∙ sym (append_assoc (f z w) (each f xs ys) (f x y))

  -- One line more behind those before it.
  pub each_next : (front : List C) (xs : List A) (ys : List B) (i : ℕ) (dx : A) (dy : B) → i < length xs → i < length ys
      → front ++ each f (take i xs) (take i ys) ++ f (get_or xs i dx) (get_or ys i dy) ≡ front ++ each f (take (i + 1) xs) (take (i + 1) ys)
  each_next front xs ys i dx dy hx hy =
      append_assoc front (each f (take i xs) (take i ys)) (f (get_or xs i dx) (get_or ys i dy))
      ∙ ap (λ (l : List C). front ++ l)
      (sym (each_behind (take i xs) (take i ys) (get_or xs i dx) (get_or ys i dy) (length-take-le i xs (omega arith) ∙ sym (length-take-le i ys (omega arith))))
      ∙ ap₂ (each f) (sym (take_one xs i dx hx)) (sym (take_one ys i dy hy)))

  -- The second list may go on.
  pub each_short : (xs : List A) (ys : List B) (n : ℕ) → length xs ≤ n → each f xs (take n ys) ≡ each f xs ys
  each_short [] ys n h = refl
  each_short (x ∷ xs) [] zero h = refl
  each_short (x ∷ xs) [] (suc n) h = refl
  each_short (x ∷ xs) (y ∷ ys) zero h = absurd (not-suc-le-zero h)
  each_short (x ∷ xs) (y ∷ ys) (suc n) h = ap (λ (l : List C). f x y ++ l) (each_short xs ys n (le_of_suc-le-suc h))

-- Rows with their marks.
pub length_joined : (xs : List Row) (marks : List ℕ) → length xs ≡ length marks → length (joined xs marks) ≡ length xs
length_joined [] marks e = refl
length_joined (x ∷ xs) [] e = absurd (omega arith)
length_joined (x ∷ xs) (mark ∷ marks) e = ap suc (length_joined xs marks (suc_inj e))

pub get_or_joined : (xs : List Row) (marks : List ℕ) (i : ℕ) (d : Entry) → i < length xs → i < length marks
    → get_or (joined xs marks) i d ≡ under_mark (get_or marks i 0) (get_or xs i [])
get_or_joined [] marks i d h k = absurd (not-suc-le-zero h)
get_or_joined (x ∷ xs) [] i d h k = absurd (not-suc-le-zero k)
get_or_joined (x ∷ xs) (mark ∷ marks) zero d h k = refl
get_or_joined (x ∷ xs) (mark ∷ marks) (suc i) d h k = get_or_joined xs marks i d (le_of_suc-le-suc h) (le_of_suc-le-suc k)

pub joined_back : (t : Table) → joined (rows t) (map (λ (x : Entry). x.mark) t) ≡ t
joined_back [] = refl
joined_back (x ∷ t) = ap (λ (u : Table). x ∷ u) (joined_back t)
