-- The matrix of the codes, read once, is that of their clauses. Assumes nothing.
use Prim.Native.Nat.{ℕ, zero, suc, ◌<◌, suc-le-suc}
use mathlib.Core.Path.{◌≡◌, refl, sym, ap, ◌∙◌}
use mathlib.Core.Logic.{◌≢◌}
use mathlib.Core.Bool.{Bool, true, false, ◌&&◌, ◌||◌, or_assoc, or-false}
use mathlib.Core.List.{List, [], ◌∷◌}
use native.Mathlib.Omega.{arith}
use lib.ListN.{length}
use Rattle.formula.specs.Formula.{max_unknowns, work_size, max_rows}
use Rattle.expansion.proofs.ClauseCuts.{clause_at, matrix_at}
use Rattle.search_cells.specs.Cells.{cells}
use Rattle.codes.specs.Private.Clauses.{code_true, code_onto, code_clauses, Ended, Coded}
use Rattle.codes.proofs.CodeLaws.{clauses_some}
use Rattle.search_evaluation.specs.Evaluation.{is_true, matrix_on, matrix_in}
use Rattle.search_evaluation.proofs.LiteralLaws.{has_this_row, true_is}

-- The matrix of the clauses, where `met` says that the first has a true literal before those that it lists.
abbrev matrix_from : (ℕ → Bool) → Bool → List (List ℕ) → Bool
matrix_from f met [] = true
matrix_from f met (x ∷ xs) = (met || clause_at code_true f x) && matrix_at code_true xs f

from_onto : (f : ℕ → Bool) (met : Bool) (c : ℕ) (xs : List (List ℕ)) → xs ≢ [] → matrix_from f (met || code_true f c) xs ≡ matrix_from f met (code_onto c xs)
from_onto f met c [] some = absurd (some refl)
from_onto f met c (x ∷ xs) some =
    ap (λ (b : Bool). b && matrix_at code_true xs f) (or_assoc met (code_true f c) (clause_at code_true f x))

from_none : (f : ℕ → Bool) (xs : List (List ℕ)) → matrix_from f false xs ≡ matrix_at code_true xs f
from_none f [] = refl
from_none f (x ∷ xs) = refl

module _ (w : List ℕ) (i : ℕ) where
  abbrev values : ℕ → Bool
  values = (cells w).value i

  matrix_read : (met : Bool) (cs : List ℕ) → Coded max_unknowns cs → Ended cs → matrix_on (is_true w i) met cs ≡ matrix_from values met (code_clauses cs)
  matrix_read met [] coded ended = refl
  matrix_read met (zero ∷ cs) coded ended =
      ap (λ (b : Bool). met && b) (matrix_read false cs (λ e lt. coded (suc e) (suc-le-suc lt)) ended.1 ∙ from_none values (code_clauses cs))
      ∙ ap (λ (b : Bool). b && matrix_at code_true (code_clauses cs) values) (sym (or-false met))
  matrix_read met (suc c ∷ cs) coded ended =
      ap (λ (b : Bool). matrix_on (is_true w i) (met || b) cs) (true_is w i (suc c) (coded 0 (omega arith) (omega arith)))
      ∙ matrix_read (met || code_true values (suc c)) cs (λ e lt. coded (suc e) (suc-le-suc lt)) ended.1
      ∙ from_onto values met (suc c) (code_clauses cs) (clauses_some cs ended.0)

-- What `matrix` returns is the matrix of the clauses by the values of row i.
pub matrix_is : (codes w : List ℕ) (i : ℕ) → length w ≡ work_size → i < max_rows → Coded max_unknowns codes → Ended codes
    → matrix_in codes w i ≡ matrix_at code_true (code_clauses codes) ((cells w).value i)
unfolding matrix_in
matrix_is codes w i area row coded ended =
    rw (has_this_row w i area row) (matrix_read w i false codes coded ended ∙ from_none ((cells w).value i) (code_clauses codes))
