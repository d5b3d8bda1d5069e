-- What is promised of a row in which every clause is true, on the universal side: w is the table of cells, `opened` that of the open terms, s and t
-- are tables of sets before and after. A literal is true by a value that the rows give, or by one whose position's set is taken in at the place
-- behind the positions. Assumes nothing.
use Rattle.std.specs.Prelude.{ℕ, ◌+◌, ◌*◌, ◌≤◌, ◌<◌, ◌≡◌, ◌⊎◌, Bool, true, false, List, eqb, length, get_or, drop}
use Rattle.formula.specs.Formula.{max_unknowns, max_rows}
use Rattle.formula.specs.Lists.{Every, Some}
use Rattle.codes.specs.Codes.{last_code, row_position}
use Rattle.codes.specs.Private.Clauses.{position, clause_of, code_clauses, Ended, Begins, Coded}
use Rattle.search_cells.specs.Cells.{cells}
use Rattle.search_evaluation.specs.Evaluation.{look_at, satisfied_at}
use Rattle.search_evaluation.specs.Private.Looked.{IsAt}
use Rattle.search_sets.specs.Sets.{set_places}
use Rattle.search_sets.specs.Private.Masks.{set_at, SetGrown, SetsKept}
use Rattle.engine.specs.Private.TermTables.{others, is_open, name_of}
use Rattle.engine.specs.Private.Terms.{own, RowOpened}

-- The rows give the value at position p: its unknown is not universal.
abbrev pub IsGiven : List ℕ → ℕ → Type 0
IsGiven kinds p = eqb (get_or kinds p 0) 1 ≡ false

-- What position p's value rests on is the set at p of the table s; the set behind the positions of the table t takes it in.
abbrev pub TakenIn : List ℕ → List ℕ → ℕ → Type 0
TakenIn s t p = (l : ℕ) → set_at s p l ≡ true → set_at t max_unknowns l ≡ true

-- The literal of code c is true in row i, by a value that is given or whose set is taken in.
abbrev pub TrueBy : List ℕ → List ℕ → ℕ → List ℕ → List ℕ → ℕ → Type 0
TrueBy kinds w i s t c = IsAt w i true c × (IsGiven kinds (position c) ⊎ TakenIn s t (position c))

-- What is known of row i: its given cells are set, and the terms that are open there are lent.
pub record RowKnown (kinds codes opened w : List ℕ) (i : ℕ) : Type 0 where
  pub unknowns : length kinds ≤ max_unknowns
  pub coded : Coded (length kinds) codes
  pub ended : Ended codes
  pub set : (p : ℕ) → p < length kinds → IsGiven kinds p → 0 < (cells w).level i p
  pub terms : RowOpened kinds codes w opened i

-- In row i, if so much is known of it, every clause has such a literal.
abbrev pub RowSatisfied : List ℕ → List ℕ → List ℕ → List ℕ → ℕ → List ℕ → List ℕ → Type 0
RowSatisfied kinds codes opened w i s t = RowKnown kinds codes opened w i → Every (Some (TrueBy kinds w i s t)) (code_clauses codes)

-- The sets of the positions stay; if the answer is no, a row from lo to hi is satisfied.
pub record Checked (kinds codes opened w : List ℕ) (lo hi : ℕ) (s t : List ℕ) (r : Bool) : Type 0 where
  pub kept : SetsKept s t
  pub satisfied : r ≡ false → (i : ℕ) × (lo ≤ i) × (i < hi) × RowSatisfied kinds codes opened w i s t

-- The sets of the positions stay; if the answer is yes, a clause is false in row i: each of its literals is set and false.
pub record FalseFound (codes w : List ℕ) (i : ℕ) (s t : List ℕ) (r : Bool) : Type 0 where
  pub kept : SetsKept s t
  pub clause : r ≡ true → (start : ℕ) × Begins codes start × (look_at codes w i start ≡ 0)

-- ---- for the contracts of private functions

-- The unknown at position p is universal.
abbrev pub IsOwn : List ℕ → ℕ → Type 0
IsOwn kinds p = eqb (get_or kinds p 0) 1 ≡ true

-- In row i every clause has such a literal: all clauses were read.
abbrev pub AllSatisfied : List ℕ → List ℕ → List ℕ → ℕ → List ℕ → List ℕ → Type 0
AllSatisfied kinds codes w i s t = Coded max_unknowns codes → Ended codes → Every (Some (TrueBy kinds w i s t)) (code_clauses codes)

-- The sets of the positions stay; if the answer is yes, row i is satisfied.
pub record RowTold (kinds codes opened w : List ℕ) (i : ℕ) (s t : List ℕ) (r : Bool) : Type 0 where
  pub kept : SetsKept s t
  pub satisfied : r ≡ true → RowSatisfied kinds codes opened w i s t

-- The literal of code c is own and true in row i, and its set is taken in.
pub record OwnMet (kinds w : List ℕ) (i : ℕ) (s t : List ℕ) (c : ℕ) : Type 0 where
  pub owned : own kinds c ≡ true
  pub satisfied : satisfied_at w i c ≡ true
  pub taken : TakenIn s t (row_position c)

-- Only the set behind the positions grows; if the answer is yes, the clause at `start` has such a literal.
pub record TermMet (kinds codes w : List ℕ) (i start : ℕ) (s t : List ℕ) (r : Bool) : Type 0 where
  pub grown : SetGrown max_unknowns s t
  pub met : r ≡ true → Some (OwnMet kinds w i s t) (clause_of (drop start codes))

-- Only that set grows; if the answer is yes, the term p has such a literal if it is open in row i.
pub record TermPassed (kinds codes opened w : List ℕ) (i p : ℕ) (s t : List ℕ) (r : Bool) : Type 0 where
  pub grown : SetGrown max_unknowns s t
  pub met : r ≡ true → is_open opened p i ≡ true → Some (OwnMet kinds w i s t) (clause_of (drop (name_of opened p) codes))

-- Only that set grows; if the answer is yes, each term that is open in row i has such a literal, and the place of the others is not open.
pub record TermsMet (kinds codes opened w : List ℕ) (i : ℕ) (s t : List ℕ) (r : Bool) : Type 0 where
  pub grown : SetGrown max_unknowns s t
  pub met : r ≡ true → (p : ℕ) → p < others → is_open opened p i ≡ true → Some (OwnMet kinds w i s t) (clause_of (drop (name_of opened p) codes))
  pub none : r ≡ true → is_open opened others i ≡ false

-- The clause at `start` has an own literal at position p that is true in row i.
abbrev pub OwnTrue : List ℕ → List ℕ → List ℕ → ℕ → ℕ → ℕ → Type 0
OwnTrue kinds codes w i start p =
    Some (λ c. (p ≡ row_position c) × (own kinds c ≡ true) × (satisfied_at w i c ≡ true)) (clause_of (drop start codes))

-- The sets of the positions stay; if the answer is yes, row i is satisfied.
pub record RowLooked (kinds codes w : List ℕ) (i : ℕ) (s t : List ℕ) (r : Bool) : Type 0 where
  pub kept : SetsKept s t
  pub satisfied : r ≡ true → AllSatisfied kinds codes w i s t

-- Only the set behind the positions grows; if the answer is yes, row i is satisfied.
pub record RowReasons (kinds codes w : List ℕ) (i : ℕ) (s t : List ℕ) (r : Bool) : Type 0 where
  pub grown : SetGrown max_unknowns s t
  pub satisfied : r ≡ true → AllSatisfied kinds codes w i s t

-- Where the hints stand behind the sets: the open terms of each row, the terms of each code, and those that are met.
abbrev pub open_at : ℕ
open_at = 2 * set_places + max_rows + 8

abbrev pub holds_at : ℕ
holds_at = open_at + max_rows

abbrev pub true_at : ℕ
true_at = holds_at + (last_code + 1)

-- The set behind the positions takes in that of a position.
pub record TakesIn (best : ℕ) (s t : List ℕ) : Type 0 where
  pub grown : SetGrown max_unknowns s t
  pub takes : TakenIn s t best
