-- Tables of which some entries have become zero. Assumes nothing.
use Prim.Native.Nat.{ℕ, zero, suc, ◌≤◌, ◌+◌, ◌-◌}
use native.Mathlib.Omega.{arith}
use mathlib.Core.Path.{◌≡◌, refl, sym, ap, ◌∙◌}
use mathlib.Core.List.{List, [], ◌∷◌, ◌++◌}
use lib.ListN.{length, drop, set, replicate}
use borrow.Rule.Slice.PartMut.{mid_of, put_mid, mid_len}
use lib.Seq.{drop-nil}
use Rattle.rows.specs.Table.{zeroed}
use Rattle.rows.specs.Access.{zeroed_from}

pub length_zeroed : (n : ℕ) (l : List ℕ) → length (zeroed n l) ≡ length l
length_zeroed zero l = refl
length_zeroed (suc n) [] = refl
length_zeroed (suc n) (x ∷ l) = ap suc (length_zeroed n l)

zeroed_nil : (n : ℕ) → zeroed n [] ≡ []
zeroed_nil zero = refl
zeroed_nil (suc n) = refl

-- Zeros over zeros.
pub zeroed_again : (m n : ℕ) (l : List ℕ) → m ≤ n → zeroed m (zeroed n l) ≡ zeroed n l
zeroed_again zero n l h = refl
zeroed_again (suc m) zero l h = absurd (omega arith)
zeroed_again (suc m) (suc n) [] h = refl
zeroed_again (suc m) (suc n) (x ∷ l) h = ap (λ (r : List ℕ). 0 ∷ r) (zeroed_again m n l (omega arith))

-- Behind the zeros all is as it was.
pub drop_zeroed : (n m : ℕ) (l : List ℕ) → n ≤ m → drop m (zeroed n l) ≡ drop m l
drop_zeroed zero m l h = refl
drop_zeroed (suc n) zero l h = absurd (omega arith)
drop_zeroed (suc n) (suc m) [] h = refl
drop_zeroed (suc n) (suc m) (x ∷ l) h = drop_zeroed n m l (omega arith)

-- No entry lies between.
pub zeroed_from_none : (a b : ℕ) (l : List ℕ) → b ≤ a → zeroed_from a b l ≡ l
zeroed_from_none zero zero l h = refl
zeroed_from_none zero (suc b) l h = absurd (omega arith)
zeroed_from_none (suc a) zero l h = refl
zeroed_from_none (suc a) (suc b) [] h = refl
zeroed_from_none (suc a) (suc b) (x ∷ l) h = ap (λ (r : List ℕ). x ∷ r) (zeroed_from_none a b l (omega arith))

-- One entry more.
set_zeroed : (n : ℕ) (l : List ℕ) → set (zeroed n l) n 0 ≡ zeroed (suc n) l
set_zeroed zero [] = refl
set_zeroed zero (x ∷ l) = refl
set_zeroed (suc n) [] = refl
set_zeroed (suc n) (x ∷ l) = ap (λ (r : List ℕ). 0 ∷ r) (set_zeroed n l)

pub set_zeroed_from : (a b : ℕ) (l : List ℕ) → a ≤ b → set (zeroed_from a b l) b 0 ≡ zeroed_from a (suc b) l
set_zeroed_from zero b l h = set_zeroed b l
set_zeroed_from (suc a) zero l h = absurd (omega arith)
set_zeroed_from (suc a) (suc b) [] h = refl
set_zeroed_from (suc a) (suc b) (x ∷ l) h = ap (λ (r : List ℕ). x ∷ r) (set_zeroed_from a b l (omega arith))

-- A part that is filled with zeros is back in its place.
filled : (a n b : ℕ) (l : List ℕ) → b ≡ a + n → b ≤ length l → put_mid a n l (replicate n 0) ≡ zeroed_from a b l
filled zero n b l e h =
    let same : n ≡ b = omega arith in
    ap (λ (m : ℕ). replicate m 0 ++ drop m l) same ∙ behind b l h
  where
    behind : (n : ℕ) (l : List ℕ) → n ≤ length l → replicate n 0 ++ drop n l ≡ zeroed n l
    behind zero l h = refl
    behind (suc n) [] h = absurd (omega arith)
    behind (suc n) (x ∷ l) h = ap (λ (r : List ℕ). 0 ∷ r) (behind n l (omega arith))
filled (suc a) n zero l e h = absurd (omega arith)
filled (suc a) n (suc b) [] e h = absurd (omega arith)
filled (suc a) n (suc b) (x ∷ l) e h = ap (λ (r : List ℕ). x ∷ r) (filled a n b l (omega arith) (omega arith))

pub part_zeroed : (a b : ℕ) (l part : List ℕ) → a ≤ b → b ≤ length l → part ≡ replicate (length (mid_of a (b - a) l)) 0 →
    put_mid a (b - a) l part ≡ zeroed_from a b l
part_zeroed a b l part h g e =
    ap (put_mid a (b - a) l) (e ∙ ap (λ (n : ℕ). replicate n 0) (mid_len a b l g)) ∙ filled a (b - a) b l (omega arith) g

-- What is written over the start of a list is not seen where it has become zero.
pub zeroed_over : (old l : List ℕ) → length old ≤ length l → zeroed (length old) (old ++ drop (length old) l) ≡ zeroed (length old) l
zeroed_over [] l h = refl
zeroed_over (x ∷ old) [] h = absurd (omega arith)
zeroed_over (x ∷ old) (y ∷ l) h = ap (λ (r : List ℕ). 0 ∷ r) (zeroed_over old l (omega arith))

-- Places given up behind what is written over the start of a list.
pub given_up_behind : (new l : List ℕ) (b : ℕ) → zeroed_from (length new) b (new ++ drop (length new) l) ≡ new ++ drop (length new) (zeroed b l)
given_up_behind [] l b = refl
given_up_behind (z ∷ new) l zero = refl
given_up_behind (z ∷ new) [] (suc b) =
    ap (λ (r : List ℕ). z ∷ r)
    (ap (λ (r : List ℕ). zeroed_from (length new) b (new ++ r)) (sym (drop-nil (length new)))
    ∙ given_up_behind new [] b
    ∙ ap (λ (r : List ℕ). new ++ drop (length new) r) (zeroed_nil b)
    ∙ ap (λ (r : List ℕ). new ++ r) (drop-nil (length new)))
given_up_behind (z ∷ new) (y ∷ l) (suc b) = ap (λ (r : List ℕ). z ∷ r) (given_up_behind new l b)
