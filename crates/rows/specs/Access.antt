-- What the code reads from a table, finds in it and writes to it. No contract of the search, the judge or the run cites this file. Assumes nothing.
use Rattle.std.specs.Prelude.{ℕ, zero, suc, ◌+◌, ◌*◌, ◌/◌, ◌%◌, ◌^◌, min, Bool, true, false, ◌&&◌, cond, List, [], ◌∷◌, ◌++◌, eqb, ltb, length, get_or, take, drop, set, None, Option, Some}
use Rattle.std.specs.Int.Bits.{bit_or}
use Rattle.rows.specs.Row.{values}
use Rattle.rows.specs.Stray.{row_bits}
use Rattle.rows.specs.Table.{inside, row_at, room, zeroed}

-- 'On request a row is handed back as the caller's own sixteen bytes; for a place at or past the count, or not wholly inside the table, as
-- an empty part.'
unfoldable pub handed_back : List ℕ → ℕ → ℕ → List ℕ
handed_back table count place = cond (ltb place count) (row_at table place) []

-- 'The caller's own': where that part begins in the table, counted in bytes; an empty part begins where the table does.
unfoldable pub handed_start : List ℕ → ℕ → ℕ → ℕ
handed_start table count place = cond (ltb place count && inside table place) (16 * place) 0

-- The table with bit k of row i set. It stays as it is if the row is not wholly inside it, or if a row has no bit k.
unfoldable pub bit_set : List ℕ → ℕ → ℕ → List ℕ
bit_set table i k =
    let place = 16 * i + k / 8 in
    cond (inside table i && ltb k row_bits) (set table place (bit_or (get_or table place 0) (2 ^ (k % 8)))) table

-- Two lists of bytes are equal.
abbrev pub same_bytes : List ℕ → List ℕ → Bool
same_bytes [] [] = true
same_bytes [] (y ∷ ys) = false
same_bytes (x ∷ xs) [] = false
same_bytes (x ∷ xs) (y ∷ ys) = eqb x y && same_bytes xs ys

-- Row i of a table equals row j of another. A row that is not wholly inside its table equals none.
unfoldable pub equal_rows : List ℕ → ℕ → List ℕ → ℕ → Bool
equal_rows table i other j = inside table i && inside other j && same_bytes (row_at table i) (row_at other j)

-- The first place, counted from i, at which a list has true.
abbrev pub first_true : ℕ → List Bool → Option ℕ
first_true i [] = None
first_true i (true ∷ vs) = Some i
first_true i (false ∷ vs) = first_true (suc i) vs

-- The first place below the count whose row equals row j of another table.
unfoldable pub first_place : List ℕ → ℕ → List ℕ → ℕ → Option ℕ
first_place table count other j = first_true 0 (values count (λ i. equal_rows table i other j))

-- The table with a row in the place of row i.
abbrev pub placed : List ℕ → ℕ → List ℕ → List ℕ
placed table i row = take (16 * i) table ++ row ++ drop (16 * i + 16) table

-- Row i and mark i, and row j of another table, are all inside.
abbrev pub writable : List ℕ → List ℕ → ℕ → List ℕ → ℕ → Bool
writable table marks i other j = inside table i && ltb i (length marks) && inside other j

-- Row j of another table written to place i with its mark: the rows and the marks afterwards. If one of the three is not inside, both stay
-- as they are.
unfoldable pub rows_written : List ℕ → List ℕ → ℕ → List ℕ → ℕ → List ℕ
rows_written table marks i other j = cond (writable table marks i other j) (placed table i (row_at other j)) table

unfoldable pub marks_written : List ℕ → List ℕ → ℕ → List ℕ → ℕ → ℕ → List ℕ
marks_written table marks i other j mark = cond (writable table marks i other j) (set marks i mark) marks

-- The places below a number that are inside both tables.
abbrev pub places_below : List ℕ → List ℕ → ℕ → ℕ
places_below table marks to = min (min to (room table)) (length marks)

-- The entries from a on, up to b, zero, the others as they are.
abbrev pub zeroed_from : ℕ → ℕ → List ℕ → List ℕ
zeroed_from zero b l = zeroed b l
zeroed_from (suc a) zero l = l
zeroed_from (suc a) (suc b) [] = []
zeroed_from (suc a) (suc b) (x ∷ l) = x ∷ zeroed_from a b l

-- 'Rows and marks of places given up .. are zeroed': the places from one up to another, those that are inside.
unfoldable pub rows_given_up : List ℕ → List ℕ → ℕ → ℕ → List ℕ
rows_given_up table marks from to = zeroed_from (16 * from) (16 * places_below table marks to) table

unfoldable pub marks_given_up : List ℕ → List ℕ → ℕ → ℕ → List ℕ
marks_given_up table marks from to = zeroed_from from (places_below table marks to) marks
