-- The numbers that the table's places give to the copies are 01's: `copy_number` is the place of the copy in the list of copies.
-- Assumes nothing.
use Prim.Native.Nat.{ℕ, zero, suc, ◌+◌, ◌-◌, ◌≤◌, ◌<◌}
use mathlib.Core.Path.{◌≡◌, refl, sym, ap, ◌∙◌}
use mathlib.Core.Bool.{Bool, true, false, ◌||◌, cond, false≢true}
use mathlib.Core.List.{List, [], ◌∷◌, ◌++◌, map}
use mathlib.Core.Logic.{⊎_elim, ◌↔◌}
use native.Mathlib.Omega.{arith}
use native.Mathlib.Nat.{add-zero, add-suc, suc-add}
use native.Mathlib.Numerals.{add-one}
use native.Mathlib.Decide.{dec_le}
use lib.Dec.{eqb, ltb}
use lib.ListN.{length, get_or, get_or-eq_default}
use borrow.Author.Tests.{eqb-true, eqb-false, eq-eqb, ne_eqb, ltb-false, le-ltb}
use Rattle.preference.specs.Preference.{prefer}
use Rattle.expansion.specs.Play.{Row, restriction}
use Rattle.expansion.specs.Copies.{Copy, same, among, fresh, copy_at, copies_from, copies}
use Rattle.expansion.proofs.Booleans.{true_or_false, false_if_not_true}
use Rattle.expansion.proofs.Membership.{same_refl, same_eq}
use Rattle.expansion.proofs.CopyLaws.{Own}
use Rattle.expansion.proofs.Leading.{number, wanted}
use Rattle.search_cells.specs.Cells.{wants, owned}
use Rattle.search_numbering.specs.Numbering.{first_place, first_among, member, new_ones, index_of, copies_at}
use Rattle.search_numbering.specs.Private.Wants.{copies_before, copy_number, WantsFilled}
use Rattle.search_numbering.proofs.FillSteps.{first_among_in}
use Rattle.search_numbering.proofs.WantsFill.{first_place_met}

-- The rows stand sorted: entry r of `place` is the place of row r, `row` is the row at a place; entry i + 1 of `differences` says up to which
-- position the rows at i and i + 1 have the same restriction; and rows with the same restriction stand together.
pub record Placed (ts : List Bool) (rows : List Row) (place differences : List ℕ) (row : ℕ → ℕ) : Type 0 where
  pub many : length rows ≡ length place
  pub row_below : (i : ℕ) → i < length place → row i < length place
  pub place_below : (r : ℕ) → r < length place → get_or place r 0 < length place
  pub row_of_place : (r : ℕ) → r < length place → row (get_or place r 0) ≡ r
  pub place_of_row : (i : ℕ) → i < length place → get_or place (row i) 0 ≡ i
  pub differ : (i k : ℕ) → i + 1 < length place → k ≤ length ts
      → (k ≤ get_or differences (i + 1) 0) ↔ (restriction ts k (get_or rows (row i) []) ≡ restriction ts k (get_or rows (row (i + 1)) []))
  pub together : (i h g k : ℕ) → i ≤ h → h ≤ g → g < length place → k ≤ length ts
      → restriction ts k (get_or rows (row i) []) ≡ restriction ts k (get_or rows (row g) [])
      → restriction ts k (get_or rows (row i) []) ≡ restriction ts k (get_or rows (row h) [])

-- ---- numbers and rows that run in step

-- Two lists of one length whose entries belong together.
abbrev Paired : (ℕ → Row → Type 0) → List ℕ → List Row → Type 0
Paired Same [] [] = Unit {0}
Paired Same [] (r ∷ rs) = ⊥
Paired Same (x ∷ xs) [] = ⊥
Paired Same (x ∷ xs) (r ∷ rs) = Same x r × Paired Same xs rs

paired_map : (Same : ℕ → Row → Type 0) (f : ℕ → ℕ) (g : Row → Row) (xs : List ℕ) (rs : List Row) → length rs ≡ length xs
    → ((i : ℕ) → i < length xs → Same (f (get_or xs i 0)) (g (get_or rs i []))) → Paired Same (map f xs) (map g rs)
paired_map Same f g [] [] many each = tt
paired_map Same f g [] (r ∷ rs) many each = absurd (omega arith)
paired_map Same f g (x ∷ xs) [] many each = absurd (omega arith)
paired_map Same f g (x ∷ xs) (r ∷ rs) many each =
    (each zero (omega arith), paired_map Same f g xs rs (omega arith) (λ i h. each (suc i) (omega arith)))

paired_length : (Same : ℕ → Row → Type 0) (xs : List ℕ) (rs : List Row) → Paired Same xs rs → length xs ≡ length rs
paired_length Same [] [] p = refl
paired_length Same [] (r ∷ rs) p = absurd p
paired_length Same (x ∷ xs) [] p = absurd p
paired_length Same (x ∷ xs) (r ∷ rs) p = ap suc (paired_length Same xs rs p.1)

or_cond : (a b c : Bool) → b ≡ c → a || b ≡ cond a true c
or_cond true b c e = refl
or_cond false b c e = e

-- What belongs together is equal together.
module _ (Same : ℕ → Row → Type 0) (agree : (x z : ℕ) (r s : Row) → Same x r → Same z s → (x ≡ z) ↔ (r ≡ s)) where
  test_agree : (x z : ℕ) (r s : Row) → Same x r → Same z s → eqb x z ≡ same r s
  test_agree x z r s a b =
      let iff = agree x z r s a b in
      ⊎_elim
      (λ (p : eqb x z ≡ true). p ∙ sym (rw (iff.0 (eqb-true x z p)) (same_refl s)))
      (λ (p : eqb x z ≡ false). p ∙ sym (false_if_not_true (same r s) (λ q. eqb-false x z p (iff.1 (same_eq r s q)))))
      (true_or_false (eqb x z))

  test_agree_back : (x z : ℕ) (r s : Row) → Same x r → Same z s → same s r ≡ eqb x z
  test_agree_back x z r s a b =
      let iff = agree x z r s a b in
      ⊎_elim
      (λ (p : eqb x z ≡ true). rw (iff.0 (eqb-true x z p)) (same_refl s) ∙ sym p)
      (λ (p : eqb x z ≡ false). false_if_not_true (same s r) (λ q. eqb-false x z p (iff.1 (sym (same_eq s r q)))) ∙ sym p)
      (true_or_false (eqb x z))

  member_among : (x : ℕ) (r : Row) → Same x r → (xs : List ℕ) (rs : List Row) → Paired Same xs rs → member x xs ≡ among r rs
  member_among x r a [] [] p = refl
  member_among x r a [] (s ∷ rs) p = absurd p
  member_among x r a (z ∷ xs) [] p = absurd p
  member_among x r a (z ∷ xs) (s ∷ rs) p =
      rw (test_agree x z r s a p.0) (or_cond (same r s) (member x xs) (among r rs) (member_among x r a xs rs p.1))

  paired_new_ones : (seen : List ℕ) (seen_rows : List Row) → Paired Same seen seen_rows → (xs : List ℕ) (rs : List Row) → Paired Same xs rs
      → Paired Same (new_ones seen xs) (fresh seen_rows rs)
  paired_new_ones seen seen_rows q [] [] p = tt
  paired_new_ones seen seen_rows q [] (r ∷ rs) p = absurd p
  paired_new_ones seen seen_rows q (x ∷ xs) [] p = absurd p
  paired_new_ones seen seen_rows q (x ∷ xs) (r ∷ rs) p =
      let alike = member_among x r p.0 seen seen_rows q in
      ⊎_elim
      (λ (m : among r seen_rows ≡ true). rw (alike, m) (paired_new_ones seen seen_rows q xs rs p.1))
      (λ (m : among r seen_rows ≡ false). rw (alike, m) (p.0, paired_new_ones (x ∷ seen) (r ∷ seen_rows) (p.0, q) xs rs p.1))
      (true_or_false (among r seen_rows))

  -- A copy at position k has the index of its number.
  number_here : (x k : ℕ) (r : Row) → Same x r → (xs : List ℕ) (rs : List Row) → Paired Same xs rs → (rest : List Copy) → member x xs ≡ true
      → number (map (copy_at k) rs ++ rest) k r ≡ index_of x xs
  number_here x k r a [] [] p rest m = absurd (false≢true m)
  number_here x k r a [] (s ∷ rs) p rest m = absurd p
  number_here x k r a (z ∷ xs) [] p rest m = absurd p
  number_here x k r a (z ∷ xs) (s ∷ rs) p rest m =
      rw (eq-eqb k k refl, test_agree_back x z r s a p.0)
      (⊎_elim
      (λ (e : eqb x z ≡ true). rw e)
      (λ (e : eqb x z ≡ false). rw e (ap suc (number_here x k r a xs rs p.1 rest (rw e at m))))
      (true_or_false (eqb x z)))

-- The copies at another position stand before it.
number_past : (j k : ℕ) (r : Row) → (j ≡ k → ⊥) → (rs : List Row) (rest : List Copy)
    → number (map (copy_at j) rs ++ rest) k r ≡ length rs + number rest k r
number_past j k r other [] rest = omega arith
number_past j k r other (s ∷ rs) rest = rw (ne_eqb j k other) (let later = number_past j k r other rs rest in omega arith)

-- ---- places with one copy

module _ (ts : List Bool) (rows : List Row) (place differences : List ℕ) (row : ℕ → ℕ) (placed : Placed ts rows place differences row) where
  abbrev restricted : ℕ → ℕ → Row
  restricted k i = restriction ts k (get_or rows (row i) [])

  module _ (k : ℕ) (short : k ≤ length ts) where
    differ_next : (i : ℕ) → suc i < length place → (k ≤ get_or differences (suc i) 0) ↔ (restricted k i ≡ restricted k (suc i))
    differ_next i h = rw (add-one i) at (placed.differ i k (omega arith) short)

    first_same : (i : ℕ) → i < length place → restricted k i ≡ restricted k (first_place differences k i)
    first_same zero h = refl
    first_same (suc i) h =
        ⊎_elim
        (λ (p : ltb (get_or differences (suc i) 0) k ≡ true). rw p)
        (λ (p : ltb (get_or differences (suc i) 0) k ≡ false).
        rw p (sym ((differ_next i h).0 (ltb-false (get_or differences (suc i) 0) k p)) ∙ first_same i (omega arith)))
        (true_or_false (ltb (get_or differences (suc i) 0) k))

    first_equal : (d i g : ℕ) → i + d ≡ g → g < length place → restricted k i ≡ restricted k g → first_place differences k i ≡ first_place differences k g
    first_equal zero i g sum h e = let here : i ≡ g = omega arith in ap (first_place differences k) here
    first_equal (suc d) i zero sum h e = absurd (omega arith)
    first_equal (suc d) i (suc g) sum h e =
        let near : restricted k i ≡ restricted k g = placed.together i g (suc g) k (omega arith) (omega arith) h short e in
        let low : k ≤ get_or differences (suc g) 0 = (differ_next g h).1 (sym near ∙ e) in
        rw (le-ltb (get_or differences (suc g) 0) k low) (first_equal d i g (omega arith) (omega arith) near)

    -- Places have one first place exactly if their rows have one restriction.
    first_iff : (i h : ℕ) → i < length place → h < length place → (first_place differences k i ≡ first_place differences k h) ↔
        (restricted k i ≡ restricted k h)
    first_iff i h less fits = (
      λ e. first_same i less ∙ ap (restricted k) e ∙ sym (first_same h fits),
      λ e. back e (dec_le i h),
    )
      where
        back : restricted k i ≡ restricted k h → Dec (i ≤ h) → first_place differences k i ≡ first_place differences k h
        back e (yes l) = first_equal (h - i) i h (omega arith) fits e
        back e (no l) = sym (first_equal (i - h) h i (omega arith) less (sym e))

    -- The first places of the lent rows and their restrictions run in step.
    abbrev Same : ℕ → Row → Type 0
    Same x r = (q : ℕ) × (q < length place) × (x ≡ first_place differences k (get_or place q 0)) × (r ≡ restriction ts k (get_or rows q []))

    restricted_place : (q : ℕ) → q < length place → restricted k (get_or place q 0) ≡ restriction ts k (get_or rows q [])
    restricted_place q h = ap (λ (j : ℕ). restriction ts k (get_or rows j [])) (placed.row_of_place q h)

    same_agree : (x z : ℕ) (r s : Row) → Same x r → Same z s → (x ≡ z) ↔ (r ≡ s)
    same_agree x z r s a b =
        let iff = first_iff (get_or place a.0 0) (get_or place b.0 0) (placed.place_below a.0 a.1) (placed.place_below b.0 b.1) in
        let at_a = restricted_place a.0 a.1 in
        let at_b = restricted_place b.0 b.1 in (
          λ e. a.3 ∙ sym at_a ∙ iff.0 (sym a.2 ∙ e ∙ b.2) ∙ at_b ∙ sym b.3,
          λ e. a.2 ∙ iff.1 (at_a ∙ sym a.3 ∙ e ∙ b.3 ∙ sym at_b) ∙ sym b.2,
        )

    same_at : (i : ℕ) → i < length place → Same (first_place differences k i) (restricted k i)
    same_at i h = (row i, placed.row_below i h, ap (first_place differences k) (sym (placed.place_of_row i h)), refl)

    paired_copies : Paired Same (copies_at differences place k) (fresh [] (map (restriction ts k) rows))
    unfolding copies_at
    paired_copies =
        paired_new_ones Same same_agree [] [] tt (map (first_among differences k (length place)) place) (map (restriction ts k) rows)
        (paired_map Same (first_among differences k (length place)) (restriction ts k) place rows placed.many
        (λ q h. (q, h, first_among_in differences k (length place) (get_or place q 0) (placed.place_below q h), refl)))

    length_copies : length (copies_at differences place k) ≡ length (fresh [] (map (restriction ts k) rows))
    length_copies = paired_length Same (copies_at differences place k) (fresh [] (map (restriction ts k) rows)) paired_copies

    number_at : (i : ℕ) → i < length place → (rest : List Copy)
        → number (map (copy_at k) (fresh [] (map (restriction ts k) rows)) ++ rest) k (restricted k i) ≡ index_of (first_place differences k i)
        (copies_at differences place k)
    number_at i h rest =
        number_here Same same_agree (first_place differences k i) k (restricted k i) (same_at i h) (copies_at differences place k)
        (fresh [] (map (restriction ts k) rows)) paired_copies rest
        (first_place_met differences place k i (row i) h (placed.row_below i h) (placed.place_of_row i h))

  -- ---- all positions

  own_below : (k : ℕ) → Own ts k → k ≤ length ts
  own_below k o = below (dec_le (length ts) k)
    where
      below : Dec (length ts ≤ k) → k ≤ length ts
      below (yes l) = absurd (false≢true (sym (get_or-eq_default ts false l) ∙ o))
      below (no l) = omega arith

  -- Of the positions that are left k is the first, and the own one is the d-th of them, at position p.
  number_from : (i p : ℕ) → i < length place → Own ts p → (left : List Bool) (k d : ℕ) → ((j : ℕ) → get_or left j false ≡ get_or ts (k + j) false) → k + d ≡ p
      → copies_before differences place ts k + number (copies_from ts rows k left) p (restricted p i)
      ≡ copies_before differences place ts p + index_of (first_place differences p i) (copies_at differences place p)
  number_from i p h o [] k d here sum = absurd (false≢true (here d ∙ ap (λ (n : ℕ). get_or ts n false) sum ∙ o))
  number_from i p h o (false ∷ left) k zero here sum =
      absurd (false≢true (here zero ∙ ap (λ (n : ℕ). get_or ts n false) sum ∙ o))
  number_from i p h o (true ∷ left) k zero here sum =
      let now_at : k ≡ p = omega arith in
      rw now_at (ap (λ (n : ℕ). copies_before differences place ts p + n) (number_at p (own_below p o) i h (copies_from ts rows (suc p) left)))
  number_from i p h o (false ∷ left) k (suc d) here sum =
      let other : get_or ts k false ≡ false = ap (λ (n : ℕ). get_or ts n false) (sym (add-zero k)) ∙ sym (here zero) in
      let behind = number_from i p h o left (suc k) d (λ j. here (suc j) ∙ ap (λ (n : ℕ). get_or ts n false) (add-suc k j ∙ sym (suc-add k j))) (omega arith) in
      rw other at behind
  number_from i p h o (true ∷ left) k (suc d) here sum =
      let own : get_or ts k false ≡ true = ap (λ (n : ℕ). get_or ts n false) (sym (add-zero k)) ∙ sym (here zero) in
      let behind = number_from i p h o left (suc k) d (λ j. here (suc j) ∙ ap (λ (n : ℕ). get_or ts n false) (add-suc k j ∙ sym (suc-add k j))) (omega arith) in
      let whole = rw own at behind in
      let past = number_past k p (restricted p i) (λ e. omega arith) (fresh [] (map (restriction ts k) rows)) (copies_from ts rows (suc k) left) in
      let many = length_copies k (own_below k own) in
      omega arith

  pub copy_number_is_number : (i k : ℕ) → i < length place → Own ts k
      → copy_number differences place ts i k ≡ number (copies ts rows) k (restriction ts k (get_or rows (row i) []))
  unfolding copy_number copies
  copy_number_is_number i k h o =
      let whole = number_from i k h o ts zero k (λ j. ap (λ (n : ℕ). get_or ts n false) (omega arith)) (omega arith) in
      omega arith

-- So each own cell of the filled table wants what its copy prefers.
pub wants_of_copies : (kinds preferences place differences : List ℕ) (side : ℕ) (w u : List ℕ) (rows : List Row) (row : ℕ → ℕ)
    → WantsFilled kinds preferences place differences side w u → Placed (owned kinds side) rows place differences row
    → (i k : ℕ) → i < length place → k < length kinds → Own (owned kinds side) k
    → wants u i k ≡ wanted (prefer preferences) (owned kinds side) rows k (restriction (owned kinds side) k (get_or rows (row i) []))
unfolding wanted
wants_of_copies kinds preferences place differences side w u rows row filled placed i k h less own =
    filled.wanted i k h less own ∙ ap (prefer preferences) (copy_number_is_number (owned kinds side) rows place differences row placed i k h own)
