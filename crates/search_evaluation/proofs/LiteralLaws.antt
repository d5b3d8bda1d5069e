-- A literal of one of the 128 unknowns: what the definitions read is what its code says of the cells. Assumes nothing.
use Prim.Native.Nat.{ℕ, ◌%◌, ◌≤◌, ◌<◌}
use mathlib.Core.Path.{◌≡◌, ap, sym, ◌∙◌}
use mathlib.Core.Bool.{Bool, true, false, not, cond, ◌&&◌, and-eq-true_iff, false≢true}
use mathlib.Core.List.{List}
use native.Mathlib.Omega.{arith}
use borrow.Author.Tests.{lt-ltb, ltb-true, ltb-false, eq-eqb}
use lib.Dec.{ltb, eqb}
use lib.ListN.{length}
use Rattle.formula.specs.Formula.{max_unknowns, work_size, max_rows}
use Rattle.search_cells.specs.Cells.{cells}
use Rattle.codes.specs.Private.Clauses.{position, code_true}
use Rattle.codes.specs.Codes.{row_position}
use Rattle.codes.proofs.CodeLaws.{row_position_is}
use Rattle.search_evaluation.specs.Evaluation.{has_row, is_set, is_true, is_satisfied, satisfied_at}
use Rattle.search_evaluation.specs.Private.Looked.{IsAt}

-- Each code of a literal: none but these stand in codes that are `Coded max_unknowns`.
abbrev pub IsLiteral : ℕ → Type 0
IsLiteral c = (2 ≤ c) × (position c < max_unknowns)

pub has_this_row : (w : List ℕ) (i : ℕ) → length w ≡ work_size → i < max_rows → has_row w i ≡ true
has_this_row w i area row = rw (eq-eqb (length w) work_size area, lt-ltb i max_rows row)

module _ (w : List ℕ) (i c : ℕ) (literal : IsLiteral c) where
  same_position : row_position c ≡ position c
  same_position = row_position_is c literal.0 literal.1

  pub true_is : is_true w i c ≡ code_true ((cells w).value i) c
  unfolding is_true code_true
  true_is = ap (λ (k : ℕ). cond (eqb (c % 2) 0) ((cells w).value i k) (not ((cells w).value i k))) same_position

  set_is : is_set w i c ≡ ltb 0 ((cells w).level i (position c))
  unfolding is_set
  set_is = ap (λ (k : ℕ). ltb 0 ((cells w).level i k)) same_position

  pub is_at : (y : Bool) → is_set w i c ≡ true → is_true w i c ≡ y → IsAt w i y c
  is_at y set truth = record {
    set = ltb-true 0 ((cells w).level i (position c)) (sym set_is ∙ set);
    is = sym true_is ∙ truth;
  }

  pub is_open : is_set w i c ≡ false → (cells w).level i (position c) ≡ 0
  is_open unset =
      let low : (cells w).level i (position c) ≤ 0 = ltb-false 0 ((cells w).level i (position c)) (sym set_is ∙ unset) in
      omega arith

  pub satisfied_is_at : satisfied_at w i c ≡ true → IsAt w i true c
  unfolding satisfied_at is_satisfied
  satisfied_is_at e = go (has_row w i) e
    where
      go : (b : Bool) → cond b (is_set w i c && is_true w i c) false ≡ true → IsAt w i true c
      go true holds =
          let both = (and-eq-true_iff (is_set w i c) (is_true w i c)).0 holds in
          is_at true both.0 both.1
      go false holds = absurd (false≢true holds)
