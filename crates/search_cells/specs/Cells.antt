-- The table of cells in the work area: a cell for each row and position. The cell (i, k) is the byte `spot i k`, 0 if it is open, else its
-- level plus 1, and the byte `flags + spot i k`, whose lowest bit is its value and whose next bit is the value that it wants.
-- Assumes nothing.
use Rattle.std.specs.Prelude.{ℕ, ◌+◌, ◌*◌, ◌/◌, Bool, ◌&&◌, cond, List, map, ltb, eqb, get_or}
use Rattle.formula.specs.Formula.{max_unknowns, max_rows, work_size}
use Rattle.preference.specs.Preference.{odd}
use Rattle.expansion.specs.Cells.{Values, Cells}

-- Where the bytes of the values begin: behind the levels of all cells.
abbrev pub flags : ℕ
flags = max_rows * max_unknowns

-- The byte of a cell's level. What is no cell of the table has no byte in the area, so no two cells share one.
abbrev pub spot : ℕ → ℕ → ℕ
spot i k = cond (ltb i max_rows && ltb k max_unknowns) (max_unknowns * i + k) work_size

unfoldable pub cells : List ℕ → Cells
cells w = record { level = λ i k. get_or w (spot i k) 0; value = λ i k. odd (get_or w (flags + spot i k) 0) }

unfoldable pub wants : List ℕ → Values
wants w i k = odd (get_or w (flags + spot i k) 0 / 2)

-- Which unknowns are the side's own.
abbrev pub owned : List ℕ → ℕ → List Bool
owned kinds side = map (λ kind. eqb kind side) kinds
