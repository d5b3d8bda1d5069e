-- In the filled table every own cell wants the preference of its copy's number, and all else is as it was.
-- Assumes nothing.
use Prim.Native.Nat.{ℕ, zero, suc, ◌+◌, ◌*◌, ◌≤◌, ◌<◌}
use mathlib.Core.Path.{◌≡◌, refl, sym, ap, ◌∙◌}
use mathlib.Core.Bool.{Bool, true, false}
use mathlib.Core.List.{List, [], ◌∷◌, map}
use mathlib.Core.Logic.{⊎_elim}
use native.Mathlib.Omega.{arith}
use native.Mathlib.Nat.{add-zero, add-suc, suc-add}
use native.Mathlib.Decide.{ℕ_discrete}
use lib.Dec.{eqb}
use lib.ListN.{length, get_or, length-set}
use borrow.Author.Tests.{le-leb, eq-eqb}
use Rattle.formula.specs.Formula.{work_size, max_rows, max_unknowns}
use Rattle.preference.specs.Preference.{prefer}
use Rattle.rows.specs.Row.{weight}
use Rattle.expansion.proofs.Booleans.{true_or_false, never_both}
use Rattle.search_cells.specs.Cells.{flags as flags_from, cells, wants, owned}
use Rattle.search_cells.specs.Private.Changes.{WantSet}
use Rattle.search_cells.proofs.CellLaws.{want_set}
use Rattle.search_cells.proofs.OwnedLaws.{owned_at}
use Rattle.search_numbering.specs.Numbering.{first_place, first_among, member, copies_at, index_of, preferred, written, filled_at, filled_from, filled}
use Rattle.search_numbering.specs.Private.Wants.{copies_before, copy_number, WantsFilled}
use Rattle.search_numbering.proofs.NewOnes.{member_map, member_new_ones}
use Rattle.search_numbering.proofs.FillSteps.{first_among_in}

-- ---- one position

-- The cells of the first n places at position k want what f says; all else stays.
record Written (f : ℕ → Bool) (k n : ℕ) (w u : List ℕ) : Type 0 where
  there : (i : ℕ) → i < n → wants u i k ≡ f i
  elsewhere : (h j : ℕ) → (j ≡ k → ⊥) → (wants u h j ≡ wants w h j) × ((cells u).value h j ≡ (cells w).value h j)
  levels : (h j : ℕ) → (cells u).level h j ≡ (cells w).level h j

length_written : (f : ℕ → Bool) (k n : ℕ) (w : List ℕ) → length (written f k n w) ≡ length w
length_written f k zero w = refl
length_written f k (suc n) w = length-set (written f k n w) (flags_from + (max_unknowns * n + k)) (2 * weight (f n)) ∙ length_written f k n w

module _ (f : ℕ → Bool) (k : ℕ) (w : List ℕ) (small : k < max_unknowns) (area : length w ≡ work_size) where
  written_more : (n : ℕ) (u x : List ℕ) → Written f k n w u → WantSet n k (f n) u x → Written f k (suc n) w x
  written_more n u x so_far one = record {
    there = λ i less. there i less (ℕ_discrete i n);
    elsewhere = λ h j out.
        let old = so_far.elsewhere h j out in
        let new = one.elsewhere h j (λ t. out t.1) in
        (new.0 ∙ old.0, new.1 ∙ old.1);
    levels = λ h j. one.levels h j ∙ so_far.levels h j;
  }
    where
      there : (i : ℕ) → i < suc n → Dec (i ≡ n) → wants x i k ≡ f i
      there i less (yes e) = rw e one.there
      there i less (no d) = (one.elsewhere i k (λ t. d t.0)).0 ∙ so_far.there i (omega arith)

  written_all : (n : ℕ) → n ≤ max_rows → Written f k n w (written f k n w)
  written_all zero few = record { there = λ i less. absurd (omega arith); elsewhere = λ h j out. (refl, refl); levels = λ h j. refl }
  written_all (suc n) few =
      written_more n (written f k n w) (written f k (suc n) w) (written_all n (omega arith))
      (want_set n k (omega arith) small (written f k n w) (length_written f k n w ∙ area) (f n))

-- A lent row's place has a copy among those of the lent rows.
pub first_place_met : (differences place : List ℕ) (k i r : ℕ) → i < length place → r < length place → get_or place r 0 ≡ i
    → member (first_place differences k i) (copies_at differences place k) ≡ true
unfolding copies_at
first_place_met differences place k i r inside less is =
    member_new_ones (first_place differences k i) [] (map (first_among differences k (length place)) place) refl
    ∙ ap (λ (x : ℕ). member x (map (first_among differences k (length place)) place))
    (sym (first_among_in differences k (length place) i inside) ∙ ap (first_among differences k (length place)) (sym is))
    ∙ member_map (first_among differences k (length place)) place r less

-- The cells at position k, whose copies are numbered from `number` on, want the preferences of their copies' numbers.
record FilledAt (preferences place differences : List ℕ) (k number : ℕ) (w u : List ℕ) : Type 0 where
  there : (i : ℕ) → i < length place
      → wants u i k ≡ prefer preferences (number + index_of (first_place differences k i) (copies_at differences place k))
  elsewhere : (h j : ℕ) → (j ≡ k → ⊥) → (wants u h j ≡ wants w h j) × ((cells u).value h j ≡ (cells w).value h j)
  levels : (h j : ℕ) → (cells u).level h j ≡ (cells w).level h j

length_filled_at : (preferences place differences : List ℕ) (k number : ℕ) (w : List ℕ) → length (filled_at preferences place differences k number w) ≡ length w
unfolding filled_at
length_filled_at preferences place differences k number w =
    length_written (λ i. preferred preferences number (copies_at differences place k) (first_place differences k i)) k (length place) w

met_preferred : (preferences : List ℕ) (number : ℕ) (copies : List ℕ) (x : ℕ) → member x copies ≡ true
    → preferred preferences number copies x ≡ prefer preferences (number + index_of x copies)
unfolding preferred
met_preferred preferences number copies x met = rw met

-- ---- position by position

-- The own cells at the positions below n want the preferences of their copies' numbers.
record WantsFilledBelow (kinds preferences place differences : List ℕ) (side n : ℕ) (w u : List ℕ) : Type 0 where
  wanted : (i k : ℕ) → i < length place → k < n → get_or (owned kinds side) k false ≡ true
      → wants u i k ≡ prefer preferences (copy_number differences place (owned kinds side) i k)
  levels : (h j : ℕ) → (cells u).level h j ≡ (cells w).level h j
  values : (h j : ℕ) → get_or (owned kinds side) j false ≡ false → (cells u).value h j ≡ (cells w).value h j

module _ (kinds preferences place differences : List ℕ) (side : ℕ) (w : List ℕ) where
  wants_none : WantsFilledBelow kinds preferences place differences side 0 w w
  wants_none = record { wanted = λ i k h less own. absurd (omega arith); levels = λ h j. refl; values = λ h j other. refl }

  wants_whole : (u : List ℕ) → WantsFilledBelow kinds preferences place differences side (length kinds) w u
      → WantsFilled kinds preferences place differences side w u
  wants_whole u f = record { wanted = f.wanted; levels = f.levels; values = f.values }

  module _ (n : ℕ) (u : List ℕ) (f : WantsFilledBelow kinds preferences place differences side n w u) where
    -- the other side's position
    wants_other : get_or (owned kinds side) n false ≡ false → WantsFilledBelow kinds preferences place differences side (suc n) w u
    wants_other other = record {
      wanted = λ i k h less own. wanted i k h less own (ℕ_discrete k n);
      levels = f.levels;
      values = f.values;
    }
      where
        wanted : (i k : ℕ) → i < length place → k < suc n → get_or (owned kinds side) k false ≡ true → Dec (k ≡ n)
            → wants u i k ≡ prefer preferences (copy_number differences place (owned kinds side) i k)
        wanted i k h less own (yes e) = absurd (never_both own (ap (λ (x : ℕ). get_or (owned kinds side) x false) e ∙ other))
        wanted i k h less own (no d) = f.wanted i k h (omega arith) own

    -- an own position
    wants_own : (x : List ℕ) → get_or (owned kinds side) n false ≡ true
        → FilledAt preferences place differences n (copies_before differences place (owned kinds side) n) u x
        → WantsFilledBelow kinds preferences place differences side (suc n) w x
    unfolding copy_number
    wants_own x own a = record {
      wanted = λ i k h less o. wanted i k h less o (ℕ_discrete k n);
      levels = λ h j. a.levels h j ∙ f.levels h j;
      values = λ h j other.
          (a.elsewhere h j (λ e. never_both own (ap (λ (y : ℕ). get_or (owned kinds side) y false) (sym e) ∙ other))).1 ∙ f.values h j other;
    }
      where
        wanted : (i k : ℕ) → i < length place → k < suc n → get_or (owned kinds side) k false ≡ true → Dec (k ≡ n)
            → wants x i k ≡ prefer preferences (copy_number differences place (owned kinds side) i k)
        wanted i k h less o (yes e) = rw e (a.there i h)
        wanted i k h less o (no d) = (a.elsewhere i k d).0 ∙ f.wanted i k h (omega arith) o

module _ (kinds preferences place differences : List ℕ) (side : ℕ) (w : List ℕ) (short : length kinds ≤ max_unknowns) (few : length place ≤ max_rows)
    (onto : (i : ℕ) → i < length place → (r : ℕ) × (r < length place) × (get_or place r 0 ≡ i)) where
  filled_at_is : (k number : ℕ) (u : List ℕ) → k < max_unknowns → length u ≡ work_size
      → FilledAt preferences place differences k number u (filled_at preferences place differences k number u)
  unfolding filled_at
  filled_at_is k number u small area = record {
    there = λ i h.
        let r = onto i h in
        all.there i h
        ∙ met_preferred preferences number (copies_at differences place k) (first_place differences k i)
        (first_place_met differences place k i r.0 h r.1 r.2);
    elsewhere = all.elsewhere;
    levels = all.levels;
  }
    where
      all : Written (λ i. preferred preferences number (copies_at differences place k) (first_place differences k i)) k (length place) u
          (written (λ i. preferred preferences number (copies_at differences place k) (first_place differences k i)) k (length place) u)
      all = written_all (λ i. preferred preferences number (copies_at differences place k) (first_place differences k i)) k u small area (length place) few

  -- Of the positions that are left k is the first; those before it are filled.
  wants_from : (left : List ℕ) (k : ℕ) (u : List ℕ) → ((j : ℕ) → get_or left j 0 ≡ get_or kinds (k + j) 0) → k + length left ≡ length kinds
      → length u ≡ work_size → WantsFilledBelow kinds preferences place differences side k w u
      → WantsFilled kinds preferences place differences side w
      (filled_from preferences place differences side left k (copies_before differences place (owned kinds side) k) u)
  wants_from [] k u here sum area f =
      let full : k ≡ length kinds = omega arith in
      wants_whole kinds preferences place differences side w u (rw full at f)
  wants_from (kind ∷ left) k u here sum area f =
      let inside : k < length kinds = omega arith in
      let kind_is : eqb kind side ≡ get_or (owned kinds side) k false =
      ap (λ (x : ℕ). eqb x side) (here zero ∙ ap (λ (n : ℕ). get_or kinds n 0) (add-zero k)) ∙ sym (owned_at kinds side k inside) in
      let behind : (j : ℕ) → get_or left j 0 ≡ get_or kinds (suc k + j) 0 =
      λ j. here (suc j) ∙ ap (λ (n : ℕ). get_or kinds n 0) (add-suc k j ∙ sym (suc-add k j)) in
      let sum_behind : suc k + length left ≡ length kinds = omega arith in
      let number = copies_before differences place (owned kinds side) k in
      ⊎_elim
      (λ (own : get_or (owned kinds side) k false ≡ true).
      let x = filled_at preferences place differences k number u in
      let rest = wants_from left (suc k) x behind sum_behind (length_filled_at preferences place differences k number u ∙ area)
      (wants_own kinds preferences place differences side w k u f x own (filled_at_is k number u (omega arith) area)) in
      rw (kind_is, own) (rw own at rest))
      (λ (other : get_or (owned kinds side) k false ≡ false).
      let rest = wants_from left (suc k) u behind sum_behind area (wants_other kinds preferences place differences side w k u f other) in
      rw (kind_is, other) (rw other at rest))
      (true_or_false (get_or (owned kinds side) k false))

  -- Where every place is a lent row's, the table that is filled has what the copies want.
  pub wants_filled : length differences ≡ max_rows → length w ≡ work_size
      → WantsFilled kinds preferences place differences side w (filled kinds preferences place differences side w)
  unfolding filled
  wants_filled all area =
      rw (
        le-leb (length kinds) max_unknowns short,
        le-leb (length place) max_rows few,
        eq-eqb (length differences) max_rows all,
        eq-eqb (length w)
            work_size area,
      )
      (wants_from kinds 0 w (λ j. ap (λ (n : ℕ). get_or kinds n 0) (omega arith)) (omega arith) area (wants_none kinds preferences place differences side w))
