-- No public contract cites this file: the copies' numbers and the filled table as relations, for the laws of the definitions and for private contracts.
-- Assumes nothing.
use Rattle.std.specs.Prelude.{ℕ, zero, suc, ◌+◌, ◌<◌, ◌≡◌, Bool, true, false, cond, List, [], map, length, get_or}
use Rattle.preference.specs.Preference.{prefer}
use Rattle.search_cells.specs.Cells.{cells, wants, owned}
use Rattle.search_numbering.specs.Numbering.{first_place, first_among, member, new_ones, index_of, copies_at}

-- How many copies there are at the own positions before k.
abbrev pub copies_before : List ℕ → List ℕ → List Bool → ℕ → ℕ
copies_before differences place owns zero = zero
copies_before differences place owns (suc k) =
    cond (get_or owns k false) (copies_before differences place owns k + length (copies_at differences place k)) (copies_before differences place owns k)

-- The number of the copy that place i has at position k.
unfoldable pub copy_number : List ℕ → List ℕ → List Bool → ℕ → ℕ → ℕ
copy_number differences place owns i k = copies_before differences place owns k + index_of (first_place differences k i) (copies_at differences place k)

-- Every open own cell wants the preference of its copy's number; all else stays.
pub record WantsFilled (kinds preferences place differences : List ℕ) (side : ℕ) (w u : List ℕ) : Type 0 where
  pub wanted : (i k : ℕ) → i < length place → k < length kinds → get_or (owned kinds side) k false ≡ true
      → wants u i k ≡ prefer preferences (copy_number differences place (owned kinds side) i k)
  pub levels : (h j : ℕ) → (cells u).level h j ≡ (cells w).level h j
  pub values : (h j : ℕ) → get_or (owned kinds side) j false ≡ false → (cells u).value h j ≡ (cells w).value h j

-- The table of first places at position k, written for the first n places; it has zeros behind them.
abbrev pub Grouped : List ℕ → ℕ → ℕ → List ℕ → Type 0
Grouped differences k n first = (i : ℕ) → get_or first i 0 ≡ first_among differences k n i

-- The first places of the copies that the lent rows have, by the first row that has the copy.
abbrev pub firsts : List ℕ → List ℕ → List ℕ
firsts first place = new_ones [] (map (λ i. get_or first i 0) place)

-- What a copy prefers, noted as a number that is not 0.
abbrev pub note : Bool → ℕ
note false = 1
note true = 2

-- What is noted at x where the copies with the first places `met` are numbered from `number` on: 0 if x is none of them.
abbrev pub note_at : List ℕ → ℕ → List ℕ → ℕ → ℕ
note_at preferences number met x = cond (member x met) (note (prefer preferences (number + index_of x met))) 0

-- The copies met are noted, and `next` is the number behind theirs.
pub record Numbered (preferences : List ℕ) (number : ℕ) (met : List ℕ) (next : ℕ) (notes : List ℕ) : Type 0 where
  pub count : next ≡ number + length met
  pub noted : (x : ℕ) → get_or notes x 0 ≡ note_at preferences number met x
