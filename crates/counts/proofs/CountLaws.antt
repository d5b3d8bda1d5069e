-- Counts, one place more: what the loops make. Assumes nothing.
use Rattle.std.proofs.Common.{◌≡◌, ℕ, zero, suc, ◌+◌, ◌<◌, ◌≤◌, min, max, Bool, List, [], ◌∷◌, length, get_or, set, sym, refl, ap, ◌∙◌, add-one, arith}
use Rattle.counts.specs.Counts.{one_more, counted_up, filled}

-- ---- counted up

-- The place behind those that are passed is as it was.
pub counted_up_there : (came : ℕ → Bool) (n : ℕ) (l : List ℕ) → get_or (counted_up came n l) n 0 ≡ get_or l n 0
counted_up_there came zero l = refl
counted_up_there came (suc n) [] = refl
counted_up_there came (suc n) (x ∷ l) = counted_up_there (λ i. came (suc i)) n l

counted_up_suc : (came : ℕ → Bool) (n : ℕ) (l : List ℕ) → n < length l →
    set (counted_up came n l) n (one_more (came n) (get_or l n 0)) ≡ counted_up came (suc n) l
counted_up_suc came n [] h = absurd (omega arith)
counted_up_suc came zero (x ∷ l) h = refl
counted_up_suc came (suc n) (x ∷ l) h = ap (λ (r : List ℕ). one_more (came zero) x ∷ r) (counted_up_suc (λ i. came (suc i)) n l (omega arith))

pub counted_up_next : (came : ℕ → Bool) (n : ℕ) (l : List ℕ) → n < length l →
    set (counted_up came n l) n (one_more (came n) (get_or l n 0)) ≡ counted_up came (n + 1) l
counted_up_next came n l h = counted_up_suc came n l h ∙ ap (λ (m : ℕ). counted_up came m l) (sym (add-one n))

-- There are no more counts than the table has.
pub counted_up_most : (came : ℕ → Bool) (n i : ℕ) (l : List ℕ) → i ≡ min n (length l) → counted_up came i l ≡ counted_up came n l
counted_up_most came zero zero l h = refl
counted_up_most came zero (suc i) l h = absurd (omega arith)
counted_up_most came (suc n) zero [] h = refl
counted_up_most came (suc n) zero (x ∷ l) h = absurd (omega arith)
counted_up_most came (suc n) (suc i) [] h = refl
counted_up_most came (suc n) (suc i) (x ∷ l) h = ap (λ (r : List ℕ). one_more (came zero) x ∷ r) (counted_up_most (λ j. came (suc j)) n i l (omega arith))

-- ---- filled

-- Nothing is filled where the end is not behind the start.
pub filled_none : (from to value : ℕ) (l : List ℕ) → to ≤ from → filled from to value l ≡ l
filled_none from zero value l h = refl
filled_none from (suc to) value [] h = refl
filled_none zero (suc to) value (x ∷ l) h = absurd (omega arith)
filled_none (suc from) (suc to) value (x ∷ l) h = ap (λ (r : List ℕ). x ∷ r) (filled_none from to value l (omega arith))

filled_suc : (from n value : ℕ) (l : List ℕ) → from ≤ n → n < length l → set (filled from n value l) n value ≡ filled from (suc n) value l
filled_suc from n value [] h k = absurd (omega arith)
filled_suc zero zero value (x ∷ l) h k = refl
filled_suc (suc from) zero value (x ∷ l) h k = absurd (omega arith)
filled_suc zero (suc n) value (x ∷ l) h k = ap (λ (r : List ℕ). value ∷ r) (filled_suc zero n value l (omega arith) (omega arith))
filled_suc (suc from) (suc n) value (x ∷ l) h k = ap (λ (r : List ℕ). x ∷ r) (filled_suc from n value l (omega arith) (omega arith))

pub filled_next : (from n value : ℕ) (l : List ℕ) → from ≤ n → n < length l → set (filled from n value l) n value ≡ filled from (n + 1) value l
filled_next from n value l h k = filled_suc from n value l h k ∙ ap (λ (m : ℕ). filled from m value l) (sym (add-one n))

-- Filled up to a place that is the end, or the table's end if that comes first; where the start lies behind it nothing is filled.
pub filled_most : (from to i value : ℕ) (l : List ℕ) → from ≤ i → min to (length l) ≤ i → i ≤ max from to → filled from i value l ≡ filled from to value l
filled_most from zero i value l low most high = filled_none from i value l (omega arith)
filled_most from (suc to) zero value [] low most high = refl
filled_most from (suc to) (suc i) value [] low most high = refl
filled_most from (suc to) zero value (x ∷ l) low most high = absurd (omega arith)
filled_most zero (suc to) (suc i) value (x ∷ l) low most high = ap (λ (r : List ℕ). value ∷ r)
    (filled_most zero to i value l (omega arith) (omega arith) (omega arith))
filled_most (suc from) (suc to) (suc i) value (x ∷ l) low most high = ap (λ (r : List ℕ). x ∷ r)
    (filled_most from to i value l (omega arith) (omega arith) (omega arith))
