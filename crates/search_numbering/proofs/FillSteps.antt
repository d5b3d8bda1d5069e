-- How the table is filled: first places found row by row, copies noted row by row, positions filled one by one.
-- Assumes nothing.
use Prim.Native.Nat.{ℕ, zero, suc, ◌+◌, ◌≤◌, ◌<◌}
use mathlib.Core.Path.{◌≡◌, refl, sym, ap, ◌∙◌}
use mathlib.Core.Bool.{Bool, true, false}
use mathlib.Core.List.{List, [], ◌∷◌, ◌++◌, map, map-append}
use mathlib.Core.Logic.{inr, ⊎_elim}
use native.Mathlib.Omega.{arith}
use native.Mathlib.Numerals.{add-one}
use native.Mathlib.Decide.{ℕ_discrete}
use lib.Dec.{eqb}
use lib.ListN.{length, get_or, take, drop, set, replicate, length-append, length-map}
use lib.Seq.{take-suc, drop-cons, get_or-set_same, get_or-set_other}
use borrow.Author.Tests.{lt-ltb, eq-eqb, ne_eqb}
use Rattle.preference.specs.Preference.{prefer}
use Rattle.expansion.proofs.Booleans.{true_or_false, false_if_not_true}
use Rattle.search_numbering.specs.Numbering.{first_place, first_among, member, new_ones, copies_at, index_of, preferred, written, filled_at, filled_from}
use Rattle.search_numbering.specs.Numbering.{sized, filled}
use Rattle.search_numbering.specs.Private.Wants.{Grouped, firsts, note, note_at, Numbered}
use Rattle.search_numbering.proofs.NewOnes.{length_new_ones, member_new_ones, new_ones_met, new_ones_unmet}
use Rattle.search_numbering.proofs.NewOnes.{index_of_end, member_end, index_of_append, member_append_other}

pub zeros_at : (n x : ℕ) → ◌≡◌ {A = ℕ} (get_or (replicate n 0) x 0) 0
zeros_at zero x = refl
zeros_at (suc n) zero = refl
zeros_at (suc n) (suc x) = zeros_at n x

-- ---- the first places, place by place

pub first_among_in : (differences : List ℕ) (k n i : ℕ) → i < n → first_among differences k n i ≡ first_place differences k i
first_among_in differences k n i less = rw (lt-ltb i n less)

-- ---- copies noted row by row

note_positive : (b : Bool) → 0 < note b
note_positive false = omega arith
note_positive true = omega arith

-- The first places that one more lent row brings.
module _ (first place : List ℕ) (row : ℕ) (inside : row < length place) where
  abbrev start : ℕ
  start = get_or first (get_or place row 0) 0

  abbrev before : List ℕ
  before = map (λ i. get_or first i 0) (take row place)

  firsts_next : firsts first (take (row + 1) place) ≡ new_ones [] (before ++ (start ∷ []))
  firsts_next =
      ap (λ (l : List ℕ). firsts first l) (ap (λ (n : ℕ). take n place) (add-one row) ∙ take-suc place row 0 inside)
      ∙ ap (λ (l : List ℕ). new_ones [] l) (map-append (λ (i : ℕ). get_or first i 0) (take row place) (get_or place row 0 ∷ []))

  firsts_met : member start (firsts first (take row place)) ≡ true → firsts first (take (row + 1) place) ≡ firsts first (take row place)
  firsts_met m = firsts_next ∙ new_ones_met start [] before (inr (sym (member_new_ones start [] before refl) ∙ m))

  firsts_unmet : member start (firsts first (take row place)) ≡ false
      → firsts first (take (row + 1) place) ≡ firsts first (take row place) ++ (start ∷ [])
  firsts_unmet m = firsts_next ∙ new_ones_unmet start [] before refl (sym (member_new_ones start [] before refl) ∙ m)

-- One more copy noted.
module _ (preferences : List ℕ) (number : ℕ) (met : List ℕ) (next : ℕ) (notes : List ℕ) (n : Numbered preferences number met next notes) where
  numbered_member : (x : ℕ) → (get_or notes x 0 ≡ 0 → ⊥) → member x met ≡ true
  numbered_member x noted = ⊎_elim (λ p. p) (λ (p : member x met ≡ false). absurd (noted (rw p at (n.noted x)))) (true_or_false (member x met))

  numbered_not_member : (x : ℕ) → get_or notes x 0 ≡ 0 → member x met ≡ false
  numbered_not_member x none =
      false_if_not_true (member x met)
      (λ p. let m : get_or notes x 0 ≡ note (prefer preferences (number + index_of x met)) = rw p at (n.noted x) in omega
      (arith, note_positive (prefer preferences (number + index_of x met))))

  module _ (s : ℕ) (inside : s < length notes) (unmet : member s met ≡ false) where
    abbrev with_note : List ℕ
    with_note = set notes s (note (prefer preferences next))

    noted_more : (x : ℕ) → Dec (x ≡ s) → get_or with_note x 0 ≡ note_at preferences number (met ++ (s ∷ [])) x
    noted_more x (yes e) =
        rw (e, member_end s met, index_of_end s met unmet)
        (get_or-set_same notes s (note (prefer preferences next)) 0 inside ∙ ap (λ (i : ℕ). note (prefer preferences i)) n.count)
    noted_more x (no d) =
        get_or-set_other notes s x (note (prefer preferences next)) 0 d
        ∙ n.noted x
        ∙ ⊎_elim
        (λ (p : member x met ≡ true). rw (member_append_other x met s (ne_eqb x s d), p, index_of_append x met (s ∷ []) p))
        (λ (p : member x met ≡ false). rw (member_append_other x met s (ne_eqb x s d), p))
        (true_or_false (member x met))

    numbered_more : Numbered preferences number (met ++ (s ∷ [])) (next + 1) with_note
    numbered_more = record { count = omega (arith, length-append met (s ∷ []), n.count); noted = λ x. noted_more x (ℕ_discrete x s) }

-- A turn at a lent row whose copy has the first place s.
module _ (preferences first place : List ℕ) (number row next : ℕ) (notes : List ℕ) (inside : row < length place)
    (n : Numbered preferences number (firsts first (take row place)) next notes) (i s : ℕ) (at_place : i ≡ get_or place row 0) (at_start : s ≡ get_or first i 0)
  where
    start_is : s ≡ start first place row inside
    start_is = at_start ∙ ap (λ (j : ℕ). get_or first j 0) at_place

    pub numbered_old : (get_or notes s 0 ≡ 0 → ⊥) → Numbered preferences number (firsts first (take (row + 1) place)) next notes
    numbered_old noted =
        let met = numbered_member preferences number (firsts first (take row place)) next notes n s noted in
        rw (firsts_met first place row inside (rw start_is at met)) n

    pub numbered_new : s < length notes → get_or notes s 0 ≡ 0 → (m : ℕ) → m ≡ note (prefer preferences next)
        → Numbered preferences number (firsts first (take (row + 1) place)) (next + 1) (set notes s m)
    numbered_new fits none m is =
        let unmet = numbered_not_member preferences number (firsts first (take row place)) next notes n s none in
        rw (firsts_unmet first place row inside (rw start_is at unmet), ← start_is, is)
        (numbered_more preferences number (firsts first (take row place)) next notes n s fits unmet)

-- ---- one position

map_same : (f g : ℕ → ℕ) (xs : List ℕ) → ((x : ℕ) → f x ≡ g x) → map f xs ≡ map g xs
map_same f g [] same = refl
map_same f g (x ∷ xs) same = rw (same x, map_same f g xs same)

written_same : (f g : ℕ → Bool) (k n : ℕ) (w : List ℕ) → ((i : ℕ) → i < n → f i ≡ g i) → written f k n w ≡ written g k n w
written_same f g k zero w same = refl
written_same f g k (suc n) w same = rw (written_same f g k n w (λ i less. same i (omega arith)), same n (omega arith))

note_is_two : (b : Bool) → eqb (note b) 2 ≡ b
note_is_two false = refl
note_is_two true = refl

-- The note says what the copy prefers.
note_preferred : (preferences : List ℕ) (number : ℕ) (met : List ℕ) (x : ℕ)
    → eqb (note_at preferences number met x) 2 ≡ preferred preferences number met x
unfolding preferred
note_preferred preferences number met x =
    ⊎_elim
    (λ (p : member x met ≡ true). rw p (note_is_two (prefer preferences (number + index_of x met))))
    (λ (p : member x met ≡ false). rw p)
    (true_or_false (member x met))

module _ (preferences place differences : List ℕ) (k number : ℕ) (first notes : List ℕ) (next : ℕ) (grouped : Grouped differences k (length place) first)
    (numbered : Numbered preferences number (firsts first place) next notes) where
  firsts_are_copies : firsts first place ≡ copies_at differences place k
  unfolding copies_at
  firsts_are_copies =
      ap (λ (l : List ℕ). new_ones [] l) (map_same (λ i. get_or first i 0) (first_among differences k (length place)) place grouped)

  pub number_behind : next ≡ number + length (copies_at differences place k)
  number_behind = rw (← firsts_are_copies) numbered.count

  noted_preferred : (i : ℕ) → i < length place
      → eqb (get_or notes (get_or first i 0) 0) 2 ≡ preferred preferences number (copies_at differences place k) (first_place differences k i)
  noted_preferred i less =
      let s = first_place differences k i in
      ap (λ (x : ℕ). eqb (get_or notes x 0) 2) (grouped i ∙ first_among_in differences k (length place) i less)
      ∙ ap (λ (x : ℕ). eqb x 2) (numbered.noted s)
      ∙ note_preferred preferences number (firsts first place) s
      ∙ ap (λ (met : List ℕ). preferred preferences number met s) firsts_are_copies

  pub notes_fill : (w u : List ℕ) → u ≡ written (λ i. eqb (get_or notes (get_or first i 0) 0) 2) k (length place) w
      → u ≡ filled_at preferences place differences k number w
  unfolding filled_at
  notes_fill w u is =
      is
      ∙ written_same (λ i. eqb (get_or notes (get_or first i 0) 0) 2)
      (λ i. preferred preferences number (copies_at differences place k) (first_place differences k i)) k
      (length place) w noted_preferred

-- ---- position by position

pub copies_at_most : (differences place : List ℕ) (k : ℕ) → length (copies_at differences place k) ≤ length place
unfolding copies_at
copies_at_most differences place k = omega (
  arith,
  length_new_ones [] (map (first_among differences k (length place)) place),
  length-map place
      (first_among differences k (length place)),
)

-- What the positions from k on make of the table, by what those behind k make of it.
module _ (kinds preferences place differences : List ℕ) (side k number : ℕ) (w : List ℕ) (inside : k < length kinds) where
  pub filled_own : get_or kinds k 0 ≡ side
      → filled_from preferences place differences side (drop k kinds) k number w
      ≡ filled_from preferences place differences side (drop (k + 1) kinds) (k + 1) (number + length (copies_at differences place k))
      (filled_at preferences place differences k number w)
  filled_own same = rw (add-one k, drop-cons kinds k 0 inside, eq-eqb (get_or kinds k 0) side same)

  pub filled_other : (get_or kinds k 0 ≡ side → ⊥)
      → filled_from preferences place differences side (drop k kinds) k number w
      ≡ filled_from preferences place differences side (drop (k + 1) kinds) (k + 1) number w
  filled_other differs = rw (add-one k, drop-cons kinds k 0 inside, ne_eqb (get_or kinds k 0) side differs)

-- ---- the whole table

module _ (kinds preferences place differences : List ℕ) (side : ℕ) (w : List ℕ) where
  pub filled_sized : sized (length kinds) (length place) (length differences) (length w) ≡ true → (u : List ℕ)
      → u ≡ filled_from preferences place differences side kinds 0 0 w → u ≡ filled kinds preferences place differences side w
  unfolding filled
  filled_sized is u all = rw is all

  pub filled_unsized : sized (length kinds) (length place) (length differences) (length w) ≡ false → w ≡ filled kinds preferences place differences side w
  unfolding filled
  filled_unsized not = rw not
