-- A reason for the conflict of a row: positions whose values leave the row without a model. The clauses are codes, the row's values stand in a
-- table of cells w, and the table of sets s has for each position the decisions by which its value was reached.
-- Assumes nothing.
use Rattle.std.specs.Prelude.{ℕ, ◌+◌, ◌*◌, ◌<◌, ◌≡◌, Bool, true, false, List, get_or}
use Rattle.formula.specs.Formula.{max_unknowns}
use Rattle.expansion.specs.Private.Problem.{Mask}
use Rattle.expansion.specs.Private.Matrix.{matrix_at}
use Rattle.codes.specs.Private.Clauses.{code_true, code_clauses, Coded}
use Rattle.search_cells.specs.Cells.{cells}
use Rattle.search_sets.specs.Private.Masks.{words}

-- Row i has a value at position j that was reached by no decision.
pub record Fixed (w s : List ℕ) (i j : ℕ) : Type 0 where
  pub set : 0 < (cells w).level i j
  pub low : get_or s (2 * j) 0 ≡ 0
  pub high : get_or s (2 * j + 1) 0 ≡ 0

-- Values f that row i may have, as far as it is fixed.
abbrev pub Keeps : List ℕ → List ℕ → ℕ → (ℕ → Bool) → Type 0
Keeps w s i f = (j : ℕ) → j < max_unknowns → Fixed w s i j → f j ≡ (cells w).value i j

-- A set D of positions before k is a reason: values that keep what is fixed, and are row i's at the positions of D, make a clause false.
pub record IsReason (codes w s : List ℕ) (i k : ℕ) (D : Mask) : Type 0 where
  pub denies : (f : ℕ → Bool) → Keeps w s i f → ((l : ℕ) → l < k → D l ≡ true → f l ≡ (cells w).value i l)
      → matrix_at code_true (code_clauses codes) f ≡ false

-- What is promised of two words that are found: over codes of clauses their set is a reason.
pub record Shorter (codes w s : List ℕ) (i k : ℕ) (found : Bool) (low high : ℕ) : Type 0 where
  pub reason : Coded max_unknowns codes → found ≡ true → IsReason codes w s i k (words low high)
