-- What holds while a row is searched alone, in a line a of numbers with a table of sets o: 0 stands at an open position, a number above at one
-- that is set, odd for true. Each value was reached by the decisions of its position's set, where a decision gives a position the value that
-- row i of the table w has there. Cited by contracts of private functions alone.
-- Assumes nothing.
use Rattle.std.specs.Prelude.{ℕ, ◌%◌, ◌≤◌, ◌<◌, ◌≡◌, ◌≢◌, ◌⊎◌, Bool, true, false, List, length, get_or, drop}
use Rattle.formula.specs.Formula.{max_unknowns, max_rows, work_size}
use Rattle.preference.specs.Preference.{odd}
use Rattle.expansion.specs.Private.Problem.{Mask}
use Rattle.expansion.specs.Private.Matrix.{matrix_at}
use Rattle.formula.specs.Lists.{Every}
use Rattle.codes.specs.Codes.{row_position}
use Rattle.codes.specs.Private.Clauses.{code_true, code_clauses, clause_of, HasEnd, Coded}
use Rattle.index.specs.Index.{index_size}
use Rattle.search_cells.specs.Cells.{cells}
use Rattle.search_sets.specs.Sets.{sets_size}
use Rattle.search_sets.specs.Private.Masks.{set_at}
use Rattle.engine.specs.Private.Reasons.{Keeps}

-- Values that satisfy the clauses, keep what is fixed and are the row's at the positions of D.
pub record Model (codes w s : List ℕ) (i : ℕ) (D : Mask) (f : ℕ → Bool) : Type 0 where
  pub keeps : Keeps w s i f
  pub heeds : (l : ℕ) → l < max_unknowns → D l ≡ true → f l ≡ (cells w).value i l
  pub solves : matrix_at code_true (code_clauses codes) f ≡ true

-- Such values all have the value y at position j; there are none.
abbrev pub Implied : List ℕ → List ℕ → List ℕ → ℕ → Mask → ℕ → Bool → Type 0
Implied codes w s i D j y = (f : ℕ → Bool) → Model codes w s i D f → f j ≡ y

abbrev pub Denied : List ℕ → List ℕ → List ℕ → ℕ → Mask → Type 0
Denied codes w s i D = (f : ℕ → Bool) → Model codes w s i D f → ⊥

-- Each value that is set was reached by its position's set.
pub record Held (codes w s : List ℕ) (i : ℕ) (a o : List ℕ) : Type 0 where
  pub reached : (j : ℕ) → j < max_unknowns → 0 < get_or a j 0 → Implied codes w s i (set_at o j) j (odd (get_or a j 0))

-- Position p gets the value y.
pub record LineSet (p : ℕ) (y : Bool) (a b : List ℕ) : Type 0 where
  pub there : odd (get_or b p 0) ≡ y
  pub elsewhere : (j : ℕ) → j ≢ p → get_or b j 0 ≡ get_or a j 0

-- Positions are opened.
pub record LineOpened (a b : List ℕ) : Type 0 where
  pub each : (j : ℕ) → (get_or b j 0 ≡ 0) ⊎ (get_or b j 0 ≡ get_or a j 0)

-- The literal of code c is set and false: an even code stands for the unknown, an odd one for its negation.
pub record IsFalse (a : List ℕ) (c : ℕ) : Type 0 where
  pub set : 0 < get_or a (row_position c) 0
  pub is : get_or a (row_position c) 0 % 2 ≡ c % 2

-- The clause at `start` has its end, and its literals are all false but those of one code.
pub record FalseBut (codes a : List ℕ) (start but : ℕ) : Type 0 where
  pub ends : HasEnd (drop start codes)
  pub rest : Every (λ c. (c ≡ but) ⊎ IsFalse a c) (clause_of (drop start codes))

-- So it is after steps, and if the answer is no, the set behind those of the positions is denied.
pub record Moved (codes w s : List ℕ) (i : ℕ) (a o : List ℕ) (r : Bool) : Type 0 where
  pub held : Held codes w s i a o
  pub denied : r ≡ false → Denied codes w s i (set_at o max_unknowns)

-- Steps from a and o to b and q, for every row.
pub record Moves (codes a b o q : List ℕ) (r : Bool) : Type 0 where
  pub on : (w s : List ℕ) (i : ℕ) → Coded max_unknowns codes → Held codes w s i a o → Moved codes w s i b q r

-- A step for row i, after an answer: a decision, or after a conflict the other value of one.
pub record StepsOn (codes w : List ℕ) (i : ℕ) (a b o q : List ℕ) (going r : Bool) : Type 0 where
  pub on : (s : List ℕ) → Coded max_unknowns codes → Moved codes w s i a o going → Moved codes w s i b q r

-- The sets at other positions than p stay.
pub record SetsBut (p : ℕ) (o q : List ℕ) : Type 0 where
  pub same : (j : ℕ) → j < max_unknowns → j ≢ p → (l : ℕ) → set_at q j l ≡ set_at o j l

-- As far as position e: the set at p has the positions of the set behind those of the positions, p aside, and the other sets stay.
pub record Inheriting (p e : ℕ) (o q : List ℕ) : Type 0 where
  pub others : (j : ℕ) → j ≢ p → (l : ℕ) → set_at q j l ≡ set_at o j l
  pub takes : (l : ℕ) → l < e → l ≢ p → set_at o max_unknowns l ≡ true → set_at q p l ≡ true

-- The set at p has the positions of the set behind those of the positions, p aside.
pub record Inherited (p : ℕ) (o q : List ℕ) : Type 0 where
  pub others : SetsBut p o q
  pub takes : (l : ℕ) → l < max_unknowns → l ≢ p → set_at o max_unknowns l ≡ true → set_at q p l ≡ true

-- The sets stay, those of the positions and the one behind them.
pub record Same (o q : List ℕ) : Type 0 where
  pub same : (j : ℕ) → j ≤ max_unknowns → (l : ℕ) → set_at q j l ≡ set_at o j l

-- The sizes of what is lent.
pub record Lent (index w s a o : List ℕ) (i : ℕ) : Type 0 where
  pub index_lent : length index ≡ index_size
  pub area : length w ≡ work_size
  pub sets_lent : length s ≡ sets_size
  pub own_line : length a ≡ max_unknowns
  pub own_sets : length o ≡ sets_size
  pub row : i < max_rows
