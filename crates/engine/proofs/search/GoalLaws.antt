-- The goal of a row, past the last position. Assumes nothing.
use Prim.Native.Nat.{ℕ, zero, suc, ◌≤◌, ◌<◌}
use mathlib.Core.Path.{◌≡◌, refl, sym, ap, ◌∙◌, subst}
use mathlib.Core.Logic.{◌⊎◌, inl, inr, ⊎_elim}
use mathlib.Core.Bool.{Bool, true, false, not}
use mathlib.Core.List.{List}
use native.Mathlib.Omega.{arith}
use lib.ListN.{length, drop}
use Rattle.formula.specs.Formula.{max_unknowns, max_rows, work_size}
use Rattle.expansion.proofs.Booleans.{never_both, true_or_false}
use Rattle.expansion.proofs.ClauseCuts.{clause_at, matrix_at, clause_false, true_clause}
use Rattle.search_cells.specs.Cells.{cells}
use Rattle.codes.specs.Private.Clauses.{position, code_true, code_clauses, clause_of, Ended, code_goal, Begins, Coded}
use Rattle.codes.proofs.CodeLaws.{clause_among, clause_coded, every_both}
use Rattle.search_evaluation.specs.Evaluation.{look_at}
use Rattle.search_evaluation.specs.Private.Looked.{IsAt, Looked}
use Rattle.search_evaluation.proofs.LookLaws.{look_looked}
use Rattle.search_sets.proofs.MaskLaws.{kept_trans}
use Rattle.engine.specs.Private.Satisfied.{FalseFound}
use Rattle.search_sets.specs.Private.Masks.{set_at, SetsKept}
use Rattle.engine.specs.Private.Steps.{Reached}

-- The side's goal is the matrix on the existential side, and its opposite on the other.
goal_is : (side : ℕ) (codes : List ℕ) (f : ℕ → Bool) (all r : Bool) → all ≡ matrix_at code_true (code_clauses codes) f
    → ((side ≡ 0) × (all ≡ r)) ⊎ ((side ≡ 0 → ⊥) × (all ≡ not r)) → r ≡ code_goal side codes f
unfolding code_goal
goal_is zero codes f all r e (inl q) = sym q.1 ∙ e
goal_is zero codes f all r e (inr q) = absurd (q.0 refl)
goal_is (suc side) codes f all r e (inl q) = absurd (let z : suc side ≡ 0 = q.0 in omega arith)
goal_is (suc side) codes f all true e (inr q) = ap not (sym q.1 ∙ e)
goal_is (suc side) codes f all false e (inr q) = ap not (sym q.1 ∙ e)

module _ (codes : List ℕ) (side : ℕ) (w : List ℕ) (i : ℕ) (s : List ℕ) (all : Bool)
    (is_matrix : Ended codes → all ≡ matrix_at code_true (code_clauses codes) ((cells w).value i)) where
  pub reached_goal : ((side ≡ 0) × (all ≡ true)) ⊎ ((side ≡ 0 → ⊥) × (all ≡ false)) → Reached codes side w i s s true
  reached_goal came = record {
    kept = record { same = λ p lt l. refl };
    goal = λ ended. goal_is side codes ((cells w).value i) all true (is_matrix ended) came;
    full = λ e. absurd (never_both refl e);
  }

  pub reached_not : (t : List ℕ) → ((side ≡ 0) × (all ≡ false)) ⊎ ((side ≡ 0 → ⊥) × (all ≡ true)) → SetsKept s t
      → ((l : ℕ) → l < max_unknowns → set_at t max_unknowns l ≡ true) → Reached codes side w i s t false
  reached_not t came kept full = record {
    kept = kept;
    goal = λ ended. goal_is side codes ((cells w).value i) all false (is_matrix ended) came;
    full = λ e. full;
  }

-- ---- a false clause

module _ (codes : List ℕ) (w : List ℕ) (i : ℕ) (area : length w ≡ work_size) (row : i < max_rows) (coded : Coded max_unknowns codes) where
  -- a clause whose literals are all false makes the matrix false
  matrix_false : (start : ℕ) → Begins codes start → look_at codes w i start ≡ 0 → matrix_at code_true (code_clauses codes) ((cells w).value i) ≡ false
  matrix_false start begins found =
      ⊎_elim
      (λ yes_true. absurd (never_both (true_clause code_true ((cells w).value i) (code_clauses codes) clause yes_true
      (clause_among codes start begins (looked.ends other))) none_true))
      (λ no_false. no_false)
      (true_or_false (matrix_at code_true (code_clauses codes) ((cells w).value i)))
    where
      clause : List ℕ
      clause = clause_of (drop start codes)

      looked : Looked codes w i start 0
      looked = subst (λ (x : ℕ). Looked codes w i start x) found (look_looked codes w i start area row coded)

      other : ◌≡◌ {A = ℕ} 0 1 → ⊥
      other e = omega arith

      is_false : (c : ℕ) → (2 ≤ c) × (position c < max_unknowns) → (c ≡ 0) ⊎ IsAt w i false c → code_true ((cells w).value i) c ≡ false
      is_false c literal (inl e) = absurd (let p : 2 ≤ c = literal.0 in omega arith)
      is_false c literal (inr f) = f.is

      none_true : clause_at code_true ((cells w).value i) clause ≡ false
      none_true =
          clause_false code_true ((cells w).value i) clause
          (every_both (λ c. (2 ≤ c) × (position c < max_unknowns)) (λ c. (c ≡ 0) ⊎ IsAt w i false c) (λ c. code_true ((cells w).value i) c ≡ false) is_false
          clause
          (clause_coded max_unknowns codes start coded) (looked.rest other))

  pub reached_false : (side : ℕ) (s t : List ℕ) {r : Bool} → (side ≡ 0 → ⊥) → FalseFound codes w i s t r → r ≡ true → Reached codes side w i s t true
  reached_false side s t universal false_found e = record {
    kept = false_found.kept;
    goal = λ ended. goal_is side codes ((cells w).value i) false true (sym (at (false_found.clause e))) (inr (universal, refl));
    full = λ no. absurd (never_both refl no);
  }
    where
      at : (start : ℕ) × Begins codes start × (look_at codes w i start ≡ 0) → matrix_at code_true (code_clauses codes) ((cells w).value i) ≡ false
      at q = matrix_false q.0 q.1 q.2

-- after a look for a false clause
pub reached_after : (codes : List ℕ) (side : ℕ) (w : List ℕ) (i : ℕ) (s t u : List ℕ) {r : Bool} → SetsKept s t → Reached codes side w i t u r →
    Reached codes side w i s u r
reached_after codes side w i s t u kept reached = record { kept = kept_trans kept reached.kept; goal = reached.goal; full = reached.full }
