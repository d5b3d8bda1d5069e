-- What a look at a clause means for its literals. No public contract cites it: the laws in proofs/ derive it from `look_at`.
-- Assumes nothing.
use Rattle.std.specs.Prelude.{ℕ, ◌≤◌, ◌<◌, ◌≡◌, ◌⊎◌, Bool, false, List, drop}
use Rattle.formula.specs.Formula.{max_unknowns}
use Rattle.formula.specs.Lists.{Every, Some}
use Rattle.search_cells.specs.Cells.{cells}
use Rattle.codes.specs.Private.Clauses.{position, code_true, clause_of, HasEnd}

-- The code's cell is set in row i, and its literal is y there.
pub record IsAt (w : List ℕ) (i : ℕ) (y : Bool) (c : ℕ) : Type 0 where
  pub set : 0 < (cells w).level i (position c)
  pub is : code_true ((cells w).value i) c ≡ y

-- What a look at the clause that begins at `start` finds: 1 for nothing; else each of its literals is false or is the one found, which is open.
pub record Looked (codes w : List ℕ) (i start found : ℕ) : Type 0 where
  pub ends : (found ≡ 1 → ⊥) → HasEnd (drop start codes)
  pub rest : (found ≡ 1 → ⊥) → Every (λ c. (c ≡ found) ⊎ IsAt w i false c) (clause_of (drop start codes))
  pub named : 2 ≤ found → Some (λ c. c ≡ found) (clause_of (drop start codes))
  pub unset : 2 ≤ found → (cells w).level i (position found) ≡ 0
  pub fits : 2 ≤ found → position found < max_unknowns
