-- A row table's bytes while rows are added to it: which of the yielded rows are new, the table with them, and the first universal row.
-- Assumes nothing.
use Rattle.std.specs.Prelude.{ℕ, zero, suc, ◌+◌, ◌≡◌, Bool, true, false, ◌&&◌, cond, List, leb, ltb, Option, None, Some}
use Rattle.formula.specs.Formula.{Kind, existential, universal}
use Rattle.rows.specs.Row.{weight}
use Rattle.rows.specs.Table.{room}
use Rattle.rows.specs.Access.{first_place, rows_written, marks_written, bit_set}

abbrev pub is_absent : Option ℕ → Bool
is_absent (Some i) = false
is_absent None = true

-- Row j of the yielded rows is neither in the table nor among those before it.
unfoldable pub is_new : List ℕ → ℕ → List ℕ → ℕ → Bool
is_new table n yielded j = is_absent (first_place table n yielded j) && is_absent (first_place yielded j yielded j)

-- At how many places below n a function is true.
abbrev pub count_below : ℕ → (ℕ → Bool) → ℕ
count_below zero f = 0
count_below (suc n) f = count_below n f + weight (f n)

-- The table has room for the new ones of the first yielded rows.
abbrev pub all_fit : List ℕ → ℕ → List ℕ → ℕ → Bool
all_fit table n yielded number = leb (n + count_below number (λ j. is_new table n yielded j)) (room table)

-- A table of rows with its marks and its count.
pub record Bytes : Type 0 where
  pub row_part : List ℕ
  pub mark_part : List ℕ
  pub number : ℕ

abbrev pub bytes : List ℕ → List ℕ → ℕ → Bytes
bytes row_part mark_part n = record { row_part = row_part; mark_part = mark_part; number = n }

-- With row j of the yielded rows behind the others.
abbrev pub with_row : List ℕ → ℕ → ℕ → Bytes → Bytes
with_row yielded mark j b =
    bytes (rows_written b.row_part b.mark_part b.number yielded j)
    (marks_written b.row_part b.mark_part b.number yielded j mark)
    (b.number + 1)

-- Row j is new, and there is a place for it.
abbrev pub is_added : List ℕ → ℕ → List ℕ → ℕ → Bool
is_added table n yielded j = is_new table n yielded j && ltb n (room table)

unfoldable pub with_new_row : List ℕ → ℕ → ℕ → Bytes → Bytes
with_new_row yielded mark j b = cond (is_added b.row_part b.number yielded j) (with_row yielded mark j b) b

-- With the new ones of the first n yielded rows, while there are places.
abbrev pub with_new_rows : List ℕ → ℕ → ℕ → Bytes → Bytes
with_new_rows yielded mark zero b = b
with_new_rows yielded mark (suc n) b = with_new_row yielded mark n (with_new_rows yielded mark n b)

-- 'Those not in the table are added in that order, each once, mark r. If they don't all fit, none is added.'
abbrev pub grown : List ℕ → List ℕ → ℕ → List ℕ → ℕ → ℕ → Bytes
grown table marks n yielded number mark =
    cond (all_fit table n yielded number) (with_new_rows yielded mark number (bytes table marks n)) (bytes table marks n)

abbrev pub growth : List ℕ → List ℕ → ℕ → List ℕ → ℕ → ℕ → Option ℕ
growth table marks n yielded number mark =
    cond (all_fit table n yielded number) (Some (with_new_rows yielded mark number (bytes table marks n)).number) None

-- The values of each case: whether the new rows were added, and the table's count afterwards.
abbrev pub added : Option ℕ → Bool
added (Some end) = true
added None = false

abbrev pub count_after : ℕ → Option ℕ → ℕ
count_after n (Some end) = end
count_after n None = n

-- 01's number of each case, by the kind of the table's rows: '3 no room universal, 4 no room existential'. A table that has grown ends no run.
abbrev pub answer_number : Kind → Option ℕ → Option ℕ
answer_number universal (Some end) = None
answer_number existential (Some end) = None
answer_number universal None = Some 3
answer_number existential None = Some 4

-- 'If they don't all fit, none is added': then, and only then, it is no room, and the count stays.
pub record Numbered (table marks : List ℕ) (n : ℕ) (yielded : List ℕ) (number mark : ℕ) (r : Option ℕ) : Type 0 where
  pub all_or_none : added r ≡ all_fit table n yielded number
  pub counted : count_after n r ≡ (grown table marks n yielded number mark).number
  pub universal_number : answer_number universal r ≡ cond (all_fit table n yielded number) None (Some 3)
  pub existential_number : answer_number existential r ≡ cond (all_fit table n yielded number) None (Some 4)

-- Sixteen bytes with the bits below k set that are preferred.
abbrev pub with_preferred : (ℕ → Bool) → ℕ → List ℕ → List ℕ
with_preferred f zero row = row
with_preferred f (suc k) row = cond (f k) (bit_set (with_preferred f k row) 0 k) (with_preferred f k row)
