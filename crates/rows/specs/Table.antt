-- Row tables and mark tables: a table's rows, its room, and which tables are refused. Assumes nothing.
use Rattle.std.specs.Prelude.{ℕ, zero, suc, ◌+◌, ◌*◌, ◌/◌, ◌%◌, Bool, ◌&&◌, cond, List, [], ◌∷◌, ◌++◌, eqb, leb, length, take, drop}
use Rattle.formula.specs.Formula.{max_rows}
use Rattle.rows.specs.Row.{row_of, bytes_of}

-- 'Row i starts at byte 16·i.' It is wholly inside the table.
abbrev pub inside : List ℕ → ℕ → Bool
inside table i = leb (16 * i + 16) (length table)

-- The bytes of row i; none if it is not wholly inside the table.
unfoldable pub row_at : List ℕ → ℕ → List ℕ
row_at table i = cond (inside table i) (take 16 (drop (16 * i) table)) []

-- The rows below a count, as values of m unknowns.
abbrev pub rows_of : ℕ → ℕ → List ℕ → List (List Bool)
rows_of m zero table = []
rows_of m (suc count) table = row_of m (take 16 table) ∷ rows_of m count (drop 16 table)

-- The table that holds just these rows.
abbrev pub table_of : List (List Bool) → List ℕ
table_of [] = []
table_of (row ∷ rows) = bytes_of row ++ table_of rows

-- The number of rows that a table has room for.
abbrev pub room : List ℕ → ℕ
room table = length table / 16

-- Cause 4: 'row table not 16 to 4,096 bytes in sixteens, or (run) marks not one a row'. 'A row table holds 1 to 256 rows.'
unfoldable pub table_fits : List ℕ → Bool
table_fits table = leb 16 (length table) && leb (length table) (max_rows * 16) && eqb (length table % 16) 0

-- 'A mark table has one 16-bit unsigned number a row'; 02's count table is 'one entry a row' too.
abbrev pub one_a_row : List ℕ → List ℕ → Bool
one_a_row table entries = eqb (length entries) (room table)

-- The first n entries zero, the others as they are.
abbrev pub zeroed : ℕ → List ℕ → List ℕ
zeroed zero l = l
zeroed (suc n) [] = []
zeroed (suc n) (x ∷ l) = 0 ∷ zeroed n l
