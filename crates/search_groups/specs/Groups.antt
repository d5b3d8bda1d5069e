-- Groups of neighbouring sorted rows. Entry i of the table `differences` is the first position at which the rows i - 1 and i have different
-- values, at least the number of unknowns if there is none. The rows from lo to hi are those before hi.
-- Assumes nothing.
use Rattle.std.specs.Prelude.{ℕ, zero, suc, ◌+◌, ◌-◌, ◌/◌, min, Bool, true, not, ◌&&◌, cond, List, leb, ltb, eqb, length, get_or}
use Rattle.formula.specs.Formula.{max_unknowns, max_rows, work_size}
use Rattle.search_cells.specs.Cells.{cells}
use Rattle.search_cells.specs.Steps.{first_from}

-- The rows i - 1 and i differ at a position before k. If they do not, they have the same copy of the unknown at k.
abbrev pub differ_before : List ℕ → ℕ → ℕ → Bool
differ_before differences k i = ltb (get_or differences i 0) k

-- There are rows from lo to hi, and all are in the table.
abbrev pub are_rows : List ℕ → ℕ → ℕ → Bool
are_rows differences lo hi = ltb lo hi && leb hi (length differences)

-- The last of the n numbers behind `low` for which f is true; `low` if there is none.
abbrev pub last_behind : (ℕ → Bool) → ℕ → ℕ → ℕ
last_behind f low zero = low
last_behind f low (suc n) = cond (f (low + suc n)) (low + suc n) (last_behind f low n)

-- The first of the rows from lo up to i that has row i's copy of the unknown at k: the last one that differs before k from the row before
-- it, or lo. If these are no rows of the table, it is i.
unfoldable pub copy_start : List ℕ → ℕ → ℕ → ℕ → ℕ
copy_start differences k lo i = cond (are_rows differences lo (i + 1)) (last_behind (differ_before differences k) lo (i - lo)) i

-- The row behind the last one before hi that has row i's copy of the unknown at k: the first one behind i that differs before k from the
-- row before it, or hi. If these are no rows of the table, it is i.
unfoldable pub copy_end : List ℕ → ℕ → ℕ → ℕ → ℕ
copy_end differences k i hi = cond (are_rows differences i hi) (first_from (differ_before differences k) (i + 1) (hi - (i + 1))) i

-- Up to which position row i has the values of the row before it, plus 1; 0 if it is `from`, the first row looked at, or no row of the table.
unfoldable pub agreement_of : List ℕ → ℕ → ℕ → ℕ
agreement_of differences from i = cond (ltb i (length differences) && not (eqb i from)) (get_or differences i 0 + 1) 0

-- A row with that agreement does not differ from the row before it at any of the clause's unknowns: the clause's first code c is its largest,
-- and stands for the unknown at c / 2 - 1. Past the codes' end there is no unknown.
unfoldable pub is_repeated : List ℕ → ℕ → ℕ → Bool
is_repeated codes start agreement = cond (ltb start (length codes)) (ltb (get_or codes start 0 / 2) agreement) true

-- The position before n at which row mid parts from the row before it; n if there is none, or if mid is not behind lo.
abbrev pub parts_at : List ℕ → ℕ → ℕ → ℕ → ℕ
parts_at differences lo mid n = cond (ltb lo mid) (min (get_or differences mid 0) n) n

-- The same in the table: n also if it has no row mid.
unfoldable pub split_position : List ℕ → ℕ → ℕ → ℕ → ℕ
split_position differences lo mid n = cond (ltb mid (length differences)) (parts_at differences lo mid n) n

-- The one of the rows mid and i that parts earlier from the row before it; mid if both part at the same position.
abbrev pub earlier : List ℕ → ℕ → ℕ → ℕ → ℕ
earlier differences lo mid i = cond (ltb (get_or differences i 0) (parts_at differences lo mid 255)) i mid

-- The one of the n rows behind lo that parts earliest from the row before it, the first of several; lo if none parts before position 255.
abbrev pub earliest : List ℕ → ℕ → ℕ → ℕ
earliest differences lo zero = lo
earliest differences lo (suc n) = earlier differences lo (earliest differences lo n) (lo + suc n)

-- The row behind lo at which the rows from lo to hi are split first; lo if there is none, or if these are no rows of the table.
unfoldable pub split_row : List ℕ → ℕ → ℕ → ℕ
split_row differences lo hi = cond (are_rows differences lo hi) (earliest differences lo (hi - (lo + 1))) lo

-- Position j is the side's own, and its cell in row i is open.
unfoldable pub is_open : List ℕ → List ℕ → ℕ → ℕ → ℕ → Bool
is_open kinds work side i j = eqb (get_or kinds j 0) side && eqb ((cells work).level i j) 0

-- The work area has its size, there are no more kinds than unknowns, no position before `until` is past them, and row i is one of the table's:
-- the cells of row i at these positions are in the area.
abbrev pub have_cells : List ℕ → List ℕ → ℕ → ℕ → Bool
have_cells kinds work i until =
    eqb (length work) work_size && leb (length kinds) max_unknowns && leb until (length kinds) && ltb i max_rows

-- The first position from k on, before `until`, that is the side's own and open in row i; `until` if there is none. It is k if there are no
-- such cells, or if `until` is not behind k.
unfoldable pub open_position : List ℕ → List ℕ → ℕ → ℕ → ℕ → ℕ → ℕ
open_position kinds work side k i until =
    cond (have_cells kinds work i until) (first_from (is_open kinds work side i) k (until - k)) k
