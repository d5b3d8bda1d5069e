-- A satisfied row on the universal side ends the branch: what is given rests on no decision, and what is taken in on those of its set.
-- Assumes nothing.
use Prim.Native.Nat.{ℕ, ◌≤◌, ◌<◌}
use mathlib.Core.Path.{◌≡◌, refl, sym, ap, ◌∙◌, subst}
use mathlib.Core.Logic.{inl, inr, ⊎_elim}
use mathlib.Core.Bool.{Bool, true, false, not, cond}
use mathlib.Core.List.{List}
use native.Mathlib.Omega.{arith}
use lib.Dec.{ltb}
use lib.ListN.{length, drop}
use Rattle.formula.specs.Formula.{max_unknowns}
use Rattle.expansion.specs.Cells.{Cells}
use Rattle.expansion.proofs.Booleans.{never_both}
use Rattle.expansion.proofs.Cuts.{Mask, Problem, Within, Implied, Refuted, refuted_row}
use Rattle.expansion.proofs.Node.{Node, grown_refl}
use Rattle.expansion.proofs.ClauseCuts.{Every, Some, Rests, matrix_at, every_map, some_map, dead_row}
use Rattle.search_cells.specs.Cells.{cells}
use Rattle.search_sets.specs.Private.Masks.{set_at, masks, conflict}
use Rattle.codes.specs.Codes.{row_position}
use Rattle.codes.specs.Private.Clauses.{position, code_true, clause_of, code_clauses, code_goal, Coded}
use Rattle.codes.proofs.CodeLaws.{code_local, clause_coded, row_position_is}
use Rattle.engine.specs.Private.Terms.{GivenTrue}
use Rattle.engine.specs.Private.Satisfied.{IsGiven, TakenIn, TrueBy, RowKnown, RowSatisfied, Checked}
use Rattle.engine.proofs.search.SatisfiedRows.{coded_every, some_with, every_some_with}
use Rattle.engine.proofs.search.TermLaws.{own_of}
use Rattle.engine.specs.Private.Steps.{Fits, GivenIn, Viewed, PropagatesFor}
use Rattle.engine.proofs.search.StepLaws.{masks_kept, propagates_refl}

-- ---- what is given rests on no decision

-- The masks without those of the positions that are not own.
unfoldable own_masks : Problem → (ℕ → Mask) → ℕ → Mask
own_masks P M j = cond (P.own j) (M j) (λ l. false)

own_mask : (P : Problem) (M : ℕ → Mask) (j : ℕ) (b : Bool) → P.own j ≡ b → own_masks P M j ≡ cond b (M j) (λ l. false)
unfolding own_masks
own_mask P M j b e = ap (λ (x : Bool). cond {A = Mask} x (M j) (λ l. false)) e

node_own : (P : Problem) (k lo hi : ℕ) (v : ℕ → Bool) (T : Cells) (M : ℕ → Mask) → Node P k lo hi v T M → Node P k lo hi v T (own_masks P M)
node_own P k lo hi v T M A = record {
  some = A.some;
  rows = A.rows;
  depth = A.depth;
  agree = A.agree;
  past = A.past;
  given = A.given;
  alike = A.alike;
  implied = λ i j low high fits set. by i j low high fits set (P.own j) refl;
  levels = A.levels;
}
  where
    by : (i j : ℕ) → lo ≤ i → i < hi → j < P.n → 0 < T.level i j → (b : Bool) → P.own j ≡ b → Implied P k v (own_masks P M j) i j (T.value i j)
    by i j low high fits set true own =
        subst (λ (D : Mask). Implied P k v D i j (T.value i j)) (sym (own_mask P M j true own)) (A.implied i j low high fits set)
    by i j low high fits set false given =
        λ m Mm heeds. Mm.follows i j (let z : hi ≤ P.count = A.rows in omega arith) fits given ∙ sym (A.given i j low high fits given).1

-- ---- a satisfied row is refuted

universal_goal : (P : Problem) (kinds differences codes : List ℕ) → Fits P kinds differences codes 1 → (f : ℕ → Bool)
    → P.goal f ≡ not (matrix_at code_true (code_clauses codes) f)
unfolding code_goal
universal_goal P kinds differences codes F f = F.goal f

set_of_mask : (s : List ℕ) (p l : ℕ) → masks s p l ≡ true → set_at s p l ≡ true
unfolding masks
set_of_mask s p l h = go (ltb p max_unknowns) h
  where
    go : (b : Bool) → cond {A = Mask} b (set_at s p) (λ x. false) l ≡ true → set_at s p l ≡ true
    go true q = q
    go false q = absurd (never_both q refl)

module _ (P : Problem) (kinds differences codes : List ℕ) (F : Fits P kinds differences codes 1) (k lo hi : ℕ) (v : ℕ → Bool) (w s t : List ℕ)
    (A : Node P k lo hi v (cells w) (masks s)) (i : ℕ) (low : lo ≤ i) (high : i < hi) where
  given_own : (p : ℕ) → p < P.n → IsGiven kinds p → P.own p ≡ false
  given_own p fits given = F.own p (subst (λ (n : ℕ). p < n) F.unknowns fits) ∙ given

  by_set : (c : ℕ) → TakenIn s t (position c) → Within k (own_masks P (masks s) (position c)) (conflict t)
  unfolding conflict own_masks
  by_set c taken l lk h = go (P.own (position c)) h
    where
      go : (b : Bool) → cond {A = Mask} b (masks s (position c)) (λ x. false) l ≡ true → conflict t l ≡ true
      go true q = taken l (set_of_mask s (position c) l q)
      go false q = absurd (never_both q refl)

  by_row : (c : ℕ) → position c < P.n → IsGiven kinds (position c) → Within k (own_masks P (masks s) (position c)) (conflict t)
  by_row c fits given l lk h =
      absurd (never_both (sym (ap (λ (D : Mask). D l) (own_mask P (masks s) (position c) false (given_own (position c) fits given))) ∙ h) refl)

  rests : (c : ℕ) → ((2 ≤ c) × (position c < P.n)) × TrueBy kinds w i s t c
      → Rests code_true position P.n k (cells w) (own_masks P (masks s)) (conflict t) i true c
  rests c q = record {
    named = q.0.1;
    set = q.1.0.set;
    is = q.1.0.is;
    masked = ⊎_elim (by_row c q.0.1) (by_set c) q.1.1;
  }

  row_refuted : Every (Some (TrueBy kinds w i s t)) (code_clauses codes) → Refuted P k v (conflict t) i
  row_refuted satisfied =
      dead_row code_true position code_local P k lo hi v (cells w) (own_masks P (masks s)) (conflict t) (node_own P k lo hi v (cells w) (masks s) A) i low high
      (code_clauses codes)
      (universal_goal P kinds differences codes F)
      (every_map (Some (λ c. ((2 ≤ c) × (position c < P.n)) × TrueBy kinds w i s t c))
      (Some (Rests code_true position P.n k (cells w) (own_masks P (masks s)) (conflict t) i true))
      (λ x. some_map (λ c. ((2 ≤ c) × (position c < P.n)) × TrueBy kinds w i s t c) (Rests code_true position P.n k (cells w) (own_masks P (masks s))
      (conflict t) i true) rests x)
      (code_clauses codes)
      (every_some_with (λ c. (2 ≤ c) × (position c < P.n)) (TrueBy kinds w i s t) (code_clauses codes) (coded_every P.n codes F.coded) satisfied))

-- ---- what is known of a row of a node

module _ (P : Problem) (kinds differences codes opened : List ℕ) (seen : Viewed P kinds differences codes opened 1) (short : length kinds ≤ max_unknowns)
    (k lo hi : ℕ)
    (v : ℕ → Bool)
    (w s : List ℕ) (A : Node P k lo hi v (cells w) (masks s)) (i : ℕ) (low : lo ≤ i) (high : i < hi) where
  all_coded : Coded (length kinds) codes
  all_coded = subst (λ (n : ℕ). Coded n codes) seen.fits.unknowns seen.fits.coded

  given_cell : (p : ℕ) → p < length kinds → IsGiven kinds p → (0 < (cells w).level i p) × ((cells w).value i p ≡ P.given i p)
  given_cell p inside given = A.given i p low high (subst (λ (n : ℕ). p < n) (sym seen.fits.unknowns) inside) (seen.fits.own p inside ∙ given)

  given_true : (c : ℕ) → ((2 ≤ c) × (position c < length kinds)) × GivenIn P kinds i c → GivenTrue kinds w i c
  given_true c q =
      let inside : position c < length kinds = q.0.1 in
      let same : row_position c ≡ position c = row_position_is c q.0.0 (omega arith) in
      record {
        given = q.1.given;
        is = code_local c ((cells w).value i) (P.given i)
            (given_cell (position c) inside (subst (λ (p : ℕ). IsGiven kinds p) same (own_of kinds c q.1.given))).1 ∙ q.1.is;
      }

  known : RowKnown kinds codes opened w i
  known = record {
    unknowns = short;
    coded = all_coded;
    ended = seen.fits.ended;
    set = λ p inside given. (given_cell p inside given).0;
    terms = λ start inside begins.
        ⊎_elim
        (λ some. inl (some_map (λ c. ((2 ≤ c) × (position c < length kinds)) × GivenIn P kinds i c) (GivenTrue kinds w i) given_true
        (clause_of (drop start codes))
        (some_with (λ c. (2 ≤ c) × (position c < length kinds)) (GivenIn P kinds i) (clause_of (drop start codes))
        (clause_coded (length kinds) codes start all_coded) some)))
        (λ open_there. inr open_there)
        (seen.shown refl i start (let z : hi ≤ P.count = A.rows in omega arith) inside begins);
  }

-- ---- the group

-- a check propagates in the group: no row is satisfied and it stays, or a satisfied row ends the branch
pub group_checked : (kinds differences codes opened : List ℕ) (lo hi level : ℕ) (w s t : List ℕ) (r : Bool) → length kinds ≤ max_unknowns →
    Checked kinds codes opened w lo hi s t r
    → PropagatesFor kinds 1 differences codes opened lo hi level w w s t r
group_checked kinds differences codes opened lo hi level w s t true short checked P k v seen A pos le =
    propagates_refl 1 differences codes lo hi level w s t (λ j. masks_kept j s t checked.kept) P kinds k v seen.fits A pos le
group_checked kinds differences codes opened lo hi level w s t false short checked P k v seen A pos le = record {
  grown = grown_refl level lo hi (cells w);
  wanted = λ h j. refl;
  masked = masks_kept k s t checked.kept;
  kept = λ e. absurd (never_both e refl);
  failed = λ e. ends (checked.satisfied refl);
}
  where
    ends : (i : ℕ) × (lo ≤ i) × (i < hi) × RowSatisfied kinds codes opened w i s t → Refuted P k v (conflict t) lo
    ends q =
        refuted_row P q.0 lo k v (conflict t)
        (let z : hi ≤ P.count = A.rows in let y : q.0 < hi = q.2 in omega arith)
        (let z : hi ≤ P.count = A.rows in let y : lo < hi = A.some in omega arith)
        A.depth
        (A.agree q.0 lo q.1 q.2 (omega arith) A.some)
        (row_refuted P kinds differences codes seen.fits k lo hi v w s t A q.0 q.1 q.2
        (q.3 (known P kinds differences codes opened seen short k lo hi v w s A q.0 q.1 q.2)))
