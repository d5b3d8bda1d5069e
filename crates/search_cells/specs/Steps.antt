-- What the functions make of what they are lent: each is a step at row after row or position after position. Unless the sizes are right
-- nothing changes. Assumes nothing.
use Rattle.std.specs.Prelude.{ℕ, zero, suc, ◌+◌, ◌-◌, ◌*◌, ◌/◌, Bool, not, ◌&&◌, cond, List, ◌++◌, eqb, leb, ltb, length, get_or, set, replicate}
use Rattle.std.specs.Bool.{beq}
use Rattle.formula.specs.Formula.{max_unknowns, max_rows, work_size}
use Rattle.rows.specs.Row.{weight, bit_of}
use Rattle.rows.specs.Table.{row_at, table_of}
use Rattle.expansion.specs.Play.{part}
use Rattle.expansion.specs.Cells.{others_before, tabulate}
use Rattle.search_cells.specs.Cells.{flags, spot, cells, owned}

-- A step at i, at i + 1 and so on, n times, each on what the one before it leaves.
abbrev pub steps : (ℕ → List ℕ → List ℕ) → ℕ → ℕ → List ℕ → List ℕ
steps step zero i w = w
steps step (suc n) i w = steps step n (suc i) (step i w)

-- The area has its size, and cells for that many positions and rows.
unfoldable pub fits : ℕ → ℕ → ℕ → Bool
fits area positions rows = eqb area work_size && leb positions max_unknowns && leb rows max_rows

-- A cell's level: 0 if it is open, 1 if it is given or follows from the rows alone, k + 2 if by the decision at position k.
abbrev pub with_level : ℕ → ℕ → ℕ → List ℕ → List ℕ
with_level i k level w = set w (spot i k) level

-- A cell's value: the lowest bit of its byte. What the cell wants stays.
abbrev pub with_value : ℕ → ℕ → Bool → List ℕ → List ℕ
with_value i k value w = set w (flags + spot i k) (get_or w (flags + spot i k) 0 / 2 * 2 + weight value)

-- A cell gets a level and a value.
unfoldable pub with_cell : ℕ → ℕ → ℕ → Bool → List ℕ → List ℕ
with_cell i k level value w = with_value i k value (with_level i k level w)

-- The cells at position k of the rows from lo to hi get a level and a value.
unfoldable pub rows_set : ℕ → ℕ → ℕ → ℕ → Bool → List ℕ → List ℕ
rows_set k lo hi level value w =
    cond (fits (length w) 0 hi && ltb k max_unknowns) (steps (λ i. with_cell i k level value) (hi - lo) lo w) w

-- A level that is at most the bound stays, another becomes 0.
abbrev pub bounded : ℕ → ℕ → ℕ
bounded bound level = cond (leb level bound) level 0

-- The byte `at` is bounded.
abbrev pub with_bounded : ℕ → ℕ → List ℕ → List ℕ
with_bounded bound at w = set w at (bounded bound (get_or w at 0))

-- The cells of the rows from lo to hi whose level is over the bound are opened: their levels are a run of bytes.
unfoldable pub rows_opened : ℕ → ℕ → ℕ → List ℕ → List ℕ
rows_opened lo hi bound w = cond (fits (length w) 0 hi) (steps (with_bounded bound) (max_unknowns * hi - max_unknowns * lo) (max_unknowns * lo) w) w

-- The cell (i, k) gets the value of lent row r, at level 0, if position k is the other side's. The row has a bit for each such position.
unfoldable pub with_given : List ℕ → List ℕ → ℕ → ℕ → ℕ → ℕ → List ℕ → List ℕ
with_given kinds rows side r i k w =
    cond (eqb (get_or kinds k 0) side) w (with_cell i k 1 (bit_of (row_at rows r) (others_before (owned kinds side) k)) w)

-- The cells of row i at all positions.
unfoldable pub with_given_row : List ℕ → List ℕ → ℕ → ℕ → ℕ → List ℕ → List ℕ
with_given_row kinds rows side r i w = steps (with_given kinds rows side r i) (length kinds) 0 w

-- Lent row r goes to the cells of the sorted row place[r], and so all lent rows.
unfoldable pub rows_filled : List ℕ → List ℕ → List ℕ → ℕ → List ℕ → List ℕ
rows_filled kinds rows place side w =
    cond (fits (length w) (length kinds) (length place)) (steps (λ r. with_given_row kinds rows side r (get_or place r 0)) (length place) 0 w) w

-- The first of the n places from k on at which a function is true; the place behind them if there is none.
abbrev pub first_from : (ℕ → Bool) → ℕ → ℕ → ℕ
first_from f k zero = k
first_from f k (suc n) = cond (f k) k (first_from f (k + 1) n)

-- Position k is the other side's, and the rows i and i + 1 have different values there.
unfoldable pub differ : List ℕ → ℕ → List ℕ → ℕ → ℕ → Bool
differ kinds side w i k = not (eqb (get_or kinds k 0) side) && not (beq ((cells w).value i k) ((cells w).value (i + 1) k))

-- The first position at which they differ, the number of kinds if there is none.
abbrev pub first_difference : List ℕ → ℕ → List ℕ → ℕ → ℕ
first_difference kinds side w i = first_from (differ kinds side w i) 0 (length kinds)

-- Row i + 1 gets it.
abbrev pub with_split : List ℕ → ℕ → List ℕ → ℕ → List ℕ → List ℕ
with_split kinds side w i differences = set differences (i + 1) (first_difference kinds side w i)

-- Each row below the count but the first gets the first position at which it differs from the row before it. The other entries stay.
unfoldable pub rows_compared : List ℕ → List ℕ → ℕ → ℕ → List ℕ → List ℕ
rows_compared kinds w count side differences =
    cond (fits (length w) (length kinds) count && eqb (length differences) max_rows) (steps (with_split kinds side w) (count - 1) 0 differences) differences

-- The own values of lent row r: those of its sorted row, place[r].
abbrev pub yielded : List ℕ → List ℕ → ℕ → List ℕ → ℕ → List Bool
yielded kinds place side w r = part (owned kinds side) (tabulate (length kinds) ((cells w).value (get_or place r 0)))

-- The own values of each row as sixteen bytes, in the lent order from the area's start, and zeros behind them.
unfoldable pub packed : List ℕ → List ℕ → ℕ → List ℕ → List ℕ
packed kinds place side w =
    cond (fits (length w) (length kinds) (length place))
    (table_of (tabulate (length place) (yielded kinds place side w)) ++ replicate (work_size - 16 * length place) 0) w
