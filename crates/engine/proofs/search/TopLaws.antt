-- The search as a whole: rows sorted into a filled table with wanted values make a problem that the tables fit; what the search then returns is
-- the first model's rows, or none. Assumes nothing.
use Prim.Native.Nat.{ℕ, zero, suc, ◌+◌, ◌-◌, ◌≤◌, ◌<◌}
use mathlib.Core.Path.{◌≡◌, refl, sym, ◌∙◌, ap, ap₂, subst}
use mathlib.Core.Logic.{◌⊎◌, inl, inr, ◌↔◌, ⊎_elim}
use mathlib.Core.Bool.{Bool, true, false, not}
use mathlib.Core.List.{List, [], ◌∷◌}
use mathlib.Core.Option.{none, some}
use native.Mathlib.Omega.{arith}
use native.Mathlib.Decide.{dec_lt}
use borrow.Author.Tests.{eq-eqb, ne_eqb}
use lib.Dec.{eqb}
use lib.IntN.{ℤ, pos, negsuc, nat_abs}
use lib.ListN.{length, get_or, length-map}
use Rattle.formula.specs.Formula.{kind_of, prefix, Clause, onto, clauses}
use Rattle.formula.specs.Meaning.{matrix}
use Rattle.formula.specs.Causes.{count as unknowns}
use Rattle.formula.proofs.Accepted.{Accepted}
use Rattle.preference.specs.Preference.{prefer}
use Rattle.rows.specs.Row.{row_of}
use Rattle.rows.specs.Table.{row_at, rows_of, room}
use Rattle.rows.proofs.RowLaws.{get_or_row_of}
use Rattle.rows.proofs.TableLaws.{get_or_rows_of, length_rows_of}
use Rattle.expansion.specs.Side.{own, flags}
use Rattle.expansion.specs.Play.{Row, restriction, part}
use Rattle.expansion.specs.Model.{search}
use Rattle.expansion.proofs.Booleans.{true_or_false, never_both}
use Rattle.expansion.proofs.Cuts.{Problem, Agree, Mask, Refuted}
use Rattle.expansion.proofs.ClauseCuts.{Every, matrix_at}
use Rattle.expansion.specs.Cells.{others_before, tabulate}
use Rattle.expansion.proofs.Leading.{wanted}
use Rattle.expansion.proofs.Memory.{counted_in_block, model_led}
use Rattle.expansion.proofs.Engine.{restriction_of_values, values_of_restriction, literal_at, goal_at, Names, Places, problem, problem_sound, refuted_is_none}
use Rattle.expansion.proofs.Engine.{won_is_first}
use Rattle.search_cells.specs.Cells.{cells, wants, owned}
use Rattle.search_cells.specs.Private.Changes.{Filled, FirstDifference}
use Rattle.codes.specs.Private.Clauses.{Coded, code_true, code_clauses, code_goal, Encoded}
use Rattle.search_order.specs.Private.Sorted.{up_to, Sorted}
use Rattle.engine.specs.Private.Prepared.{LastLeads}
use Rattle.engine.specs.Private.FirstBlock.{said, Remembered, Reads}
use Rattle.engine.specs.Private.Steps.{Fits, FromStart}
use Rattle.engine.specs.Private.Whole.{side_kind}
use Rattle.search_numbering.specs.Private.Wants.{WantsFilled}
use Rattle.search_cells.proofs.OwnedLaws.{owned_at, length_owned}
use Rattle.search_order.proofs.BetweenLaws.{sandwich}
use Rattle.search_numbering.proofs.WantsLaws.{Placed, wants_of_copies}

-- ---- the literals name the formula's unknowns

every_onto : (n : ℕ) (z : ℤ) (cs : List Clause) → Names n z → Every (Every (Names n)) cs → Every (Every (Names n)) (onto z cs)
every_onto n z [] h e = ((h, tt), tt)
every_onto n z (c ∷ cs) h e = ((h, e.0), e.1)

pub named_clauses : (n : ℕ) (l : List ℤ) → ((i : ℕ) → nat_abs (get_or l i (pos 0)) ≤ n) → Every (Every (Names n)) (clauses l)
named_clauses n [] h = tt
named_clauses n (pos zero ∷ l) h = (tt, named_clauses n l (λ i. h (suc i)))
named_clauses n (pos (suc x) ∷ l) h = every_onto n (pos (suc x)) (clauses l) (h 0) (named_clauses n l (λ i. h (suc i)))
named_clauses n (negsuc x ∷ l) h = every_onto n (negsuc x) (clauses l) (h 0) (named_clauses n l (λ i. h (suc i)))

-- ---- the side as a number

own_kind : (side kind : ℕ) → side ≤ 1 → kind ≤ 1 → own (side_kind side) (kind_of kind) ≡ eqb kind side
own_kind zero zero a b = refl
own_kind zero (suc k) a b = sym (ne_eqb (suc k) zero (λ e. omega arith))
own_kind (suc s) zero a b = sym (ne_eqb zero (suc s) (λ e. omega arith))
own_kind (suc s) (suc k) a b = sym (eq-eqb (suc k) (suc s) (omega arith))

pub flags_owned : (side : ℕ) (kinds : List ℕ) → side ≤ 1 → ((k : ℕ) → get_or kinds k 0 ≤ 1) → flags (side_kind side) (prefix kinds) ≡ owned kinds side
flags_owned side [] a h = refl
flags_owned side (k ∷ kinds) a h = ap₂ {C = List Bool} (λ x xs. x ∷ xs) (own_kind side k a (h 0)) (flags_owned side kinds a (λ i. h (suc i)))

goal_of_codes : (side : ℕ) (literals : List ℤ) (codes : List ℕ) →
    ((f : ℕ → Bool) → matrix_at literal_at (clauses literals) f ≡ matrix_at code_true (code_clauses codes) f) → (f : ℕ → Bool) →
    goal_at (side_kind side) (clauses literals) f ≡ code_goal side codes f
unfolding code_goal
goal_of_codes zero literals codes h f = h f
goal_of_codes (suc s) literals codes h f = ap not (h f)

-- ---- the problem of a search

module _ (kinds : List ℕ) (literals : List ℤ) (preferences rows place all differences codes : List ℕ) (side count m : ℕ) (side_fits : side ≤ 1)
    (accepted : Accepted kinds literals)
    (inside : count ≤ room rows) (some_row : 0 < count)
    (sorted : Sorted rows count m place)
    (others_fit : (k : ℕ) → k < length kinds → get_or (owned kinds side) k false ≡ false → others_before (owned kinds side) k < m)
    (encoded : Encoded literals codes) (placed : length place ≡ count) (split : length differences ≡ count)
    (z w w2 : List ℕ) (filled : Filled kinds rows place side z w) (empty : (i j : ℕ) → (cells z).level i j ≡ 0)
    (compared : (i : ℕ) → i + 1 < count → FirstDifference kinds side w i (get_or differences (i + 1) 0))
    (wanting : WantsFilled kinds preferences place all side w w2) (same_differences : (i : ℕ) → i < count → get_or all i 0 ≡ get_or differences i 0) where
  abbrev row : ℕ → ℕ
  row = sorted.row

  abbrev lent : List Row
  lent = rows_of m count rows

  abbrev P : Problem
  P = problem (prefer preferences) (side_kind side) (prefix kinds) (clauses literals) lent row

  -- the flags are the owned positions
  same_flags : flags (side_kind side) (prefix kinds) ≡ owned kinds side
  same_flags = flags_owned side kinds side_fits accepted.kinds_known

  places : Places (length lent) row (λ r. get_or place r 0)
  places = record {
    row_below = λ i lt. subst (λ (x : ℕ). row i < x) (sym (length_rows_of m count rows))
        (sorted.row_below i (subst (λ (x : ℕ). i < x) (length_rows_of m count rows) lt));
    place_below = λ r lt. subst (λ (x : ℕ). get_or place r 0 < x) (sym (length_rows_of m count rows))
        (sorted.place_below r (subst (λ (x : ℕ). r < x) (length_rows_of m count rows) lt));
    row_of_place = λ r lt. sorted.row_of_place r (subst (λ (x : ℕ). r < x) (length_rows_of m count rows) lt);
  }

  named : Every (Every (Names (length (prefix kinds)))) (clauses literals)
  named = named_clauses (length (prefix kinds)) literals (λ i. subst (λ (x : ℕ). nat_abs (get_or literals i (pos 0)) ≤ x) (sym (length-map kinds kind_of))
      (accepted.within i))

  known : P.n ≡ length kinds
  unfolding problem
  known = length-map kinds kind_of

  counted : P.count ≡ count
  unfolding problem
  counted = length_rows_of m count rows

  own_is : (j : ℕ) → P.own j ≡ get_or (owned kinds side) j false
  unfolding problem
  own_is j = ap (λ (ts : List Bool). get_or ts j false) same_flags

  lent_row : (i : ℕ) → i < count → get_or lent (row i) [] ≡ row_of m (row_at rows (row i))
  lent_row i lt = get_or_rows_of m count rows (row i) (sorted.row_below i lt) (let a : row i < count = sorted.row_below i lt in omega arith)

  -- the table's cells of the other side are the rows' values
  given_value : (i k : ℕ) → i < count → k < length kinds → P.own k ≡ false → P.given i k ≡ (cells w).value i k
  unfolding problem
  given_value i k lt lk o =
      ap (λ (ts : List Bool). get_or (get_or lent (row i) []) (others_before ts k) false) same_flags
      ∙ ap (λ (r : Row). get_or r (others_before (owned kinds side) k) false) (lent_row i lt)
      ∙ get_or_row_of m (row_at rows (row i)) (others_before (owned kinds side) k) (others_fit k lk other)
      ∙ sym (filled.there (row i) k (subst (λ (x : ℕ). row i < x) (sym placed) (sorted.row_below i lt)) lk other).1
      ∙ ap (λ (x : ℕ). (cells w).value x k) (sorted.place_of_row i lt)
    where
      other : get_or (owned kinds side) k false ≡ false
      other = sym (ap (λ (ts : List Bool). get_or ts k false) same_flags) ∙ o

  level_given : (i k : ℕ) → i < count → k < length kinds → P.own k ≡ false → (cells w).level i k ≡ 1
  level_given i k lt lk o =
      ap (λ (x : ℕ). (cells w).level x k) (sym (sorted.place_of_row i lt))
      ∙ (filled.there (row i) k (subst (λ (x : ℕ). row i < x) (sym placed) (sorted.row_below i lt)) lk (sym (own_is k) ∙ o)).0

  differ_at : (i k : ℕ) → i + 1 < length differences → k ≤ length kinds → (k ≤ get_or differences (i + 1) 0) ↔ Agree P i (i + 1) k
  differ_at i k lt lk = (forth, back)
    where
      next : i + 1 < count
      next = omega arith

      D : FirstDifference kinds side w i (get_or differences (i + 1) 0)
      D = compared i (omega arith)

      forth : k ≤ get_or differences (i + 1) 0 → Agree P i (i + 1) k
      forth h l ll o =
          given_value i l (omega arith) (omega arith) o
          ∙ D.same l (omega arith) (sym (own_is l) ∙ o)
          ∙ sym (given_value (i + 1) l (omega arith) (omega arith) o)

      back : Agree P i (i + 1) k → k ≤ get_or differences (i + 1) 0
      back a = go (dec_lt (get_or differences (i + 1) 0) k)
        where
          go : Dec (get_or differences (i + 1) 0 < k) → k ≤ get_or differences (i + 1) 0
          go (no n) = omega arith
          go (yes h) =
              let o : P.own (get_or differences (i + 1) 0) ≡ false = own_is (get_or differences (i + 1) 0) ∙ D.other (omega arith) in
              absurd
              (D.unlike (omega arith)
              (sym (given_value i (get_or differences (i + 1) 0) (omega arith) (omega arith) o)
              ∙ a (get_or differences (i + 1) 0) h o
              ∙ given_value (i + 1) (get_or differences (i + 1) 0) (omega arith) (omega arith) o))

  same_restriction : (i h k : ℕ) → Agree P i h k →
      restriction (flags (side_kind side) (prefix kinds)) k (get_or lent (row i) []) ≡ restriction (flags (side_kind side) (prefix kinds)) k
      (get_or lent (row h) [])
  unfolding problem
  same_restriction i h k a = restriction_of_values (flags (side_kind side) (prefix kinds)) k (get_or lent (row i) []) (get_or lent (row h) []) a

  same_agree : (i h k : ℕ) → k ≤ length kinds →
      restriction (flags (side_kind side) (prefix kinds)) k (get_or lent (row i) []) ≡ restriction (flags (side_kind side) (prefix kinds)) k
      (get_or lent (row h) []) → Agree P i h k
  unfolding problem
  same_agree i h k lk e l ll o =
      values_of_restriction (flags (side_kind side) (prefix kinds)) k (get_or lent (row i) []) (get_or lent (row h) []) e l ll
      (subst (λ (x : ℕ). l < x) (sym (length-map (prefix kinds) (own (side_kind side)) ∙ length-map kinds kind_of)) (omega arith)) o

  in_order : (i h : ℕ) → i ≤ h → h < count → up_to (get_or lent (row i) []) (get_or lent (row h) []) ≡ true
  in_order i h le lt = ap₂ up_to (lent_row i (omega arith)) (lent_row h lt) ∙ sorted.in_order i h le lt

  together_at : (i h g k : ℕ) → i ≤ h → h ≤ g → g < length differences → k ≤ length kinds → Agree P i g k → Agree P i h k
  together_at i h g k ih hg lt lk a =
      same_agree i h k lk
      (sandwich (flags (side_kind side) (prefix kinds)) k (get_or lent (row i) []) (get_or lent (row h) []) (get_or lent (row g) []) (in_order i h ih (omega arith))
      (in_order h g hg (omega arith)) (same_restriction i g k a))

  fits : Fits P kinds differences codes side
  unfolding problem
  fits = record {
    unknowns = known;
    rows = counted ∙ sym split;
    own = λ j lt. own_is j ∙ owned_at kinds side j lt;
    goal = λ f. goal_of_codes side literals codes encoded.same f;
    sound = problem_sound (prefer preferences) (side_kind side) (prefix kinds) (clauses literals) lent row (λ r. get_or place r 0) named places;
    differ = differ_at;
    together = together_at;
    ended = encoded.ended;
    coded = subst (λ (x : ℕ). Coded x codes) (sym known) (encoded.coded (length kinds) (λ i lt. accepted.within i));
  }

  differ_restriction : (i k : ℕ) → i + 1 < length place → k ≤ length (owned kinds side) →
      (k ≤ get_or all (i + 1) 0) ↔ (restriction (owned kinds side) k (get_or lent (row i) []) ≡ restriction (owned kinds side) k (get_or lent (row (i + 1)) []))
  differ_restriction i k lt lk =
      subst (λ (ts : List Bool). (k ≤ get_or all (i + 1) 0) ↔ (restriction ts k (get_or lent (row i) []) ≡ restriction ts k (get_or lent (row (i + 1)) [])))
      same_flags (
        λ h. same_restriction i (i + 1) k ((differ_at i k (omega arith) short).0 (subst (λ (x : ℕ). k ≤ x) here h)),
        λ e. subst (λ (x : ℕ). k ≤ x) (sym here) ((differ_at i k (omega arith) short).1 (same_agree i (i + 1) k short e)),
      )
    where
      short : k ≤ length kinds
      short = let e : length (owned kinds side) ≡ length kinds = length_owned kinds side in omega arith

      here : get_or all (i + 1) 0 ≡ get_or differences (i + 1) 0
      here = same_differences (i + 1) (omega arith)

  placed_rows : Placed (owned kinds side) lent place all row
  placed_rows = record {
    many = length_rows_of m count rows ∙ sym placed;
    row_below = λ i lt. subst (λ (x : ℕ). row i < x) (sym placed) (sorted.row_below i (omega arith));
    place_below = λ r lt. subst (λ (x : ℕ). get_or place r 0 < x) (sym placed) (sorted.place_below r (omega arith));
    row_of_place = λ r lt. sorted.row_of_place r (omega arith);
    place_of_row = λ i lt. sorted.place_of_row i (omega arith);
    differ = differ_restriction;
    together = λ i h g k ih hg lt lk e.
        subst (λ (ts : List Bool). restriction ts k (get_or lent (row i) []) ≡ restriction ts k (get_or lent (row h) [])) same_flags
        (same_restriction i h k (together_at i h g k ih hg (omega arith) (let q : length (owned kinds side) ≡ length kinds = length_owned kinds side in omega
        arith)
        (same_agree i g k (let q : length (owned kinds side) ≡ length kinds = length_owned kinds side in omega arith)
        (subst (λ (ts : List Bool). restriction ts k (get_or lent (row i) []) ≡ restriction ts k (get_or lent (row g) [])) (sym same_flags) e))));
  }

  wants_right : (i j : ℕ) → i < P.count → j < P.n → P.own j ≡ true → wants w2 i j ≡ P.wanted i j
  unfolding problem
  wants_right i j lt lj o =
      wants_of_copies kinds preferences place all side w w2 lent row wanting placed_rows i j (omega (arith, counted, placed)) (omega (arith, known))
      (sym (ap (λ (ts : List Bool). get_or ts j false) same_flags) ∙ o)
      ∙ ap (λ (ts : List Bool). wanted (prefer preferences) ts lent j (restriction ts j (get_or lent (row i) []))) (sym same_flags)

  filled_right : (i j : ℕ) → i < P.count → j < P.n → P.own j ≡ false → ((cells w2).level i j ≡ 1) × ((cells w2).value i j ≡ P.given i j)
  filled_right i j lt lj o = (
    wanting.levels i j ∙ level_given i j (omega (arith, counted)) (omega (arith, known)) o,
    wanting.values i j (sym (own_is j) ∙ o) ∙ sym (given_value i j (omega (arith, counted)) (omega (arith, known)) o),
  )

  open_right : (i j : ℕ) → ((i < P.count) × (j < P.n) × (P.own j ≡ false) → ⊥) → (cells w2).level i j ≡ 0
  open_right i j n = wanting.levels i j ∙ kept (dec_lt i count) (dec_lt j (length kinds)) (true_or_false (P.own j)) ∙ empty i j
    where
      kept : Dec (i < count) → Dec (j < length kinds) → (P.own j ≡ true) ⊎ (P.own j ≡ false) → (cells w).level i j ≡ (cells z).level i j
      kept (yes a) (yes b) (inr o) = absurd (n (omega (arith, counted), omega (arith, known), o))
      kept (yes a) (yes b) (inl o) = (filled.elsewhere i j (λ t. never_both (sym (own_is j) ∙ o) t.1)).0
      kept (yes a) (no b) o = (filled.elsewhere i j (λ t. b t.0)).0
      kept (no a) b o = (filled.unplaced i j (λ r lr e. a (subst (λ (x : ℕ). x < count) (sym e) (sorted.place_below r (omega (arith, placed)))))).0

  -- what is known of the first block holds of the problem
  module _ (own_rows : List ℕ) (known_rows : ℕ) (block : List ℕ) (reads : Reads kinds own_rows known_rows side block (length block))
      (leads : LastLeads kinds literals preferences own_rows known_rows (side_kind side) lent) where
    abbrev known_row : Row
    known_row = row_of (unknowns (side_kind side) (prefix kinds)) (row_at own_rows (known_rows - 1))

    own_there : (k : ℕ) → k < length block → P.own k ≡ true
    own_there k lt = own_is k ∙ owned_at kinds side k (omega (arith, reads.inside)) ∙ eq-eqb (get_or kinds k 0) side (reads.of_side k lt)

    own_up_to : (k : ℕ) → k < length block → (j : ℕ) → j ≤ k → P.own j ≡ true
    own_up_to k lt j le = own_there j (omega arith)

    known_value : (k : ℕ) → k < length block → get_or known_row k false ≡ said block k
    unfolding problem
    known_value k lt =
        get_or_row_of (unknowns (side_kind side) (prefix kinds)) (row_at own_rows (known_rows - 1)) k
        (counted_in_block (side_kind side) (prefix kinds) k (own_up_to k lt))
        ∙ sym (reads.values k lt)

    remembered : Remembered P block
    remembered = record {
      inside = omega (arith, known, reads.inside);
      own = own_there;
      leads = λ f M k lt before.
          ⊎_elim
          (λ e. inl (sym (known_value k lt) ∙ e))
          (λ e. inr (sym (known_value k lt) ∙ e))
          (model_led (prefer preferences) (side_kind side) (prefix kinds) (clauses literals) lent row (λ r. get_or place r 0) named places known_row
          (leads (reads.some_known (omega arith))) f M
          (omega (arith, length_rows_of m count rows, some_row)) k (own_up_to k lt) (λ j less. known_value j (omega arith) ∙ before j less));
    }

    -- what the search returns is what the definition gives
    pub searched_none : (u : List ℕ) → FromStart kinds differences codes block side w2 u false →
        search (prefer preferences) (side_kind side) (prefix kinds) (matrix (clauses literals)) lent ≡ none
    searched_none u from =
        let refuted : (D : Mask) × Refuted P 0 (λ j. false) D 0 = (from P fits wants_right filled_right open_right remembered).1 refl (λ j. false) in
        refuted_is_none (prefer preferences) (side_kind side) (prefix kinds) (clauses literals) lent row (λ r. get_or place r 0) named places (λ j. false)
        refuted.0 (subst (λ (x : ℕ). 0 < x) (sym (length_rows_of m count rows)) some_row) refuted.1

    pub searched_some : (u : List ℕ) → FromStart kinds differences codes block side w2 u true →
        search (prefer preferences) (side_kind side) (prefix kinds) (matrix (clauses literals)) lent ≡ some
        (tabulate count (λ r. part (owned kinds side) (tabulate (length kinds) ((cells u).value (get_or place r 0)))))
    unfolding problem
    searched_some u from =
        won_is_first (prefer preferences) (side_kind side) (prefix kinds) (clauses literals) lent row (λ r. get_or place r 0) named places (cells u)
        ((from P fits wants_right filled_right open_right remembered).0 refl)
        ∙ ap (λ (x : ℕ). some
        (tabulate x (λ r. part (flags (side_kind side) (prefix kinds)) (tabulate (length (prefix kinds)) ((cells u).value (get_or place r 0))))))
        (length_rows_of m count rows)
        ∙ ap (λ (ts : List Bool). some (tabulate count (λ r. part ts (tabulate (length (prefix kinds)) ((cells u).value (get_or place r 0)))))) same_flags
        ∙ ap (λ (x : ℕ). some (tabulate count (λ r. part (owned kinds side) (tabulate x ((cells u).value (get_or place r 0)))))) (length-map kinds kind_of)
