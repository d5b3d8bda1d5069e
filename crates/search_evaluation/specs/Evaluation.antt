-- What clauses, as codes, are worth in one row of the table of cells. A literal whose cell is set is true or false; any other is open.
-- Assumes nothing.
use Rattle.std.specs.Prelude.{ℕ, zero, suc, ◌+◌, ◌%◌, Bool, true, false, not, ◌&&◌, ◌||◌, cond, List, [], ◌∷◌, ltb, eqb, length, drop}
use Rattle.formula.specs.Formula.{max_unknowns, max_rows, work_size}
use Rattle.search_cells.specs.Cells.{cells}
use Rattle.codes.specs.Codes.{row_position}

-- The area is as long as the table, which has row i.
abbrev pub has_row : List ℕ → ℕ → Bool
has_row w i = eqb (length w) work_size && ltb i max_rows

-- The literal of code c is set in row i.
unfoldable pub is_set : List ℕ → ℕ → ℕ → Bool
is_set w i c = ltb 0 ((cells w).level i (row_position c))

-- It is true by its cell's value, set or not: an even code stands for the unknown, an odd one for its negation.
unfoldable pub is_true : List ℕ → ℕ → ℕ → Bool
is_true w i c = cond (eqb (c % 2) 0) ((cells w).value i (row_position c)) (not ((cells w).value i (row_position c)))

-- It is set, and true.
unfoldable pub is_satisfied : List ℕ → ℕ → ℕ → Bool
is_satisfied w i c = is_set w i c && is_true w i c

-- What the literals of a clause show: 0 if all are false, the code of the one open literal if all others are false, else 1. With the literal
-- of code c besides, by whether it is set and whether it is true: a true one, or a second open one, makes it 1.
abbrev pub shown_with : Bool → Bool → ℕ → ℕ → ℕ
shown_with true true shown c = 1
shown_with true false shown c = shown
shown_with false truth zero c = c
shown_with false truth (suc shown) c = 1

-- What the clause shows of which these are the codes left; 1 if it has no end.
abbrev pub look_on : (ℕ → Bool) → (ℕ → Bool) → ℕ → List ℕ → ℕ
look_on set truth shown [] = 1
look_on set truth shown (zero ∷ cs) = shown
look_on set truth shown (suc c ∷ cs) = look_on set truth (shown_with (set (suc c)) (truth (suc c)) shown (suc c)) cs

-- What the clause at `start` shows in row i.
unfoldable pub look_at : List ℕ → List ℕ → ℕ → ℕ → ℕ
look_at codes w i start = cond (has_row w i) (look_on (is_set w i) (is_true w i) 0 (drop start codes)) 1

-- No code up to the end of the clause is satisfied, and it has an end.
abbrev pub unsatisfied_on : (ℕ → Bool) → List ℕ → Bool
unsatisfied_on satisfied [] = false
unsatisfied_on satisfied (zero ∷ cs) = true
unsatisfied_on satisfied (suc c ∷ cs) = not (satisfied (suc c)) && unsatisfied_on satisfied cs

-- The clause at `start` is not satisfied in row i: none of its literals is set and true.
unfoldable pub unsatisfied_at : List ℕ → List ℕ → ℕ → ℕ → Bool
unsatisfied_at codes w i start = cond (has_row w i) (unsatisfied_on (is_satisfied w i) (drop start codes)) false

-- The start of the first clause that is not satisfied, where the codes from entry e on are left, the clause being read began at `start`, and `hit` says
-- whether a literal of it was satisfied; if there is none, the entry behind the last code.
abbrev pub next_unsatisfied_on : (ℕ → Bool) → ℕ → Bool → ℕ → List ℕ → ℕ
next_unsatisfied_on satisfied start hit e [] = e
next_unsatisfied_on satisfied start true e (zero ∷ cs) = next_unsatisfied_on satisfied (e + 1) false (e + 1) cs
next_unsatisfied_on satisfied start false e (zero ∷ cs) = start
next_unsatisfied_on satisfied start hit e (suc c ∷ cs) = next_unsatisfied_on satisfied start (hit || satisfied (suc c)) (e + 1) cs

-- The start of the first clause that is not satisfied in row i from `from` on.
unfoldable pub next_unsatisfied_at : List ℕ → List ℕ → ℕ → ℕ → ℕ
next_unsatisfied_at codes w i from = cond (has_row w i) (next_unsatisfied_on (is_satisfied w i) from false from (drop from codes)) (length codes)

-- Each clause has a true literal, where `met` says whether the one being read has met one. A clause without an end doesn't count.
abbrev pub matrix_on : (ℕ → Bool) → Bool → List ℕ → Bool
matrix_on truth met [] = true
matrix_on truth met (zero ∷ cs) = met && matrix_on truth false cs
matrix_on truth met (suc c ∷ cs) = matrix_on truth (met || truth (suc c)) cs

-- Each clause has a true literal in row i, by the values of all cells, set or not.
unfoldable pub matrix_in : List ℕ → List ℕ → ℕ → Bool
matrix_in codes w i = cond (has_row w i) (matrix_on (is_true w i) false codes) false

-- The literal of code c is set and true in row i.
unfoldable pub satisfied_at : List ℕ → ℕ → ℕ → Bool
satisfied_at w i c = cond (has_row w i) (is_satisfied w i c) false

-- The level of row i's cell at position k, plus 1; 0 if the cell is open, or none of the table.
unfoldable pub level_in : List ℕ → ℕ → ℕ → ℕ
level_in w i k = cond (has_row w i && ltb k max_unknowns) ((cells w).level i k) 0
