-- What a search with a model makes of a table of return counts. No contract of the run cites this file.
-- Assumes nothing.
use Rattle.std.specs.Prelude.{ℕ, zero, suc, ◌+◌, ◌%◌, ◌^◌, Bool, true, false, List, [], ◌∷◌, None, Option, Some}
use Rattle.rows.specs.Access.{first_place}

abbrev pub is_place : Option ℕ → Bool
is_place (Some i) = true
is_place None = false

-- The row at place i of a table is among the first yielded ones, once or more often.
unfoldable pub was_yielded : List ℕ → List ℕ → ℕ → ℕ → Bool
was_yielded table yielded number i = is_place (first_place yielded number table i)

-- A 32-bit count of a row that came, and of one that did not.
abbrev pub one_more : Bool → ℕ → ℕ
one_more true n = (n + 1) % 2 ^ 32
one_more false n = n

-- The first n counts, of the places that a test names one more; the others stay.
abbrev pub counted_up : (ℕ → Bool) → ℕ → List ℕ → List ℕ
counted_up came zero counts = counts
counted_up came (suc n) [] = []
counted_up came (suc n) (x ∷ counts) = one_more (came zero) x ∷ counted_up (λ i. came (suc i)) n counts

-- The counts from one place up to another get a value; the others stay.
abbrev pub filled : ℕ → ℕ → ℕ → List ℕ → List ℕ
filled from zero value counts = counts
filled from (suc to) value [] = []
filled zero (suc to) value (x ∷ counts) = value ∷ filled zero to value counts
filled (suc from) (suc to) value (x ∷ counts) = x ∷ filled from to value counts

-- After a search with a model: of the places that stand those that came have one more, the added ones up to the table's new end have 1, and
-- those behind it, up to the old end, are given up and have 0.
unfoldable pub updated : (ℕ → Bool) → ℕ → ℕ → ℕ → List ℕ → List ℕ
updated came stand end old counts = filled end old 0 (filled stand end 1 (counted_up came stand counts))
