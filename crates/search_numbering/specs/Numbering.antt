-- The numbers of the copies over sorted rows, and the table of cells with what each copy prefers.
-- Assumes nothing.
use Rattle.std.specs.Prelude.{ℕ, zero, suc, ◌+◌, ◌*◌, Bool, false, ◌&&◌, ◌||◌, cond, List, [], ◌∷◌, map, eqb, leb, ltb, length, get_or, set}
use Rattle.formula.specs.Formula.{max_unknowns, max_rows, work_size}
use Rattle.preference.specs.Preference.{prefer}
use Rattle.rows.specs.Row.{weight}
use Rattle.search_cells.specs.Cells.{flags}

-- Sorted rows that have the same copy (annotated variable) at position k stand together, so a copy is known by the first of them. Neighbours
-- that differ before k have different copies: entry i of `differences` says where sorted row i first differs from the one before it.
abbrev pub first_place : List ℕ → ℕ → ℕ → ℕ
first_place differences k zero = zero
first_place differences k (suc i) = cond (ltb (get_or differences (suc i) 0) k) (suc i) (first_place differences k i)

-- The same among so many sorted rows; a place behind them counts as the first.
abbrev pub first_among : List ℕ → ℕ → ℕ → ℕ → ℕ
first_among differences k count i = cond (ltb i count) (first_place differences k i) 0

-- A number is in a list.
abbrev pub member : ℕ → List ℕ → Bool
member x [] = false
member x (y ∷ ys) = eqb x y || member x ys

-- The numbers of a list that are not seen yet, each once, in order.
abbrev pub new_ones : List ℕ → List ℕ → List ℕ
new_ones seen [] = []
new_ones seen (x ∷ xs) =
    let skipped = new_ones seen xs in
    let kept = x ∷ new_ones (x ∷ seen) xs in
    cond (member x seen) skipped kept

-- The copies at position k by their first sorted rows, in the order of the lent rows: entry r of `place` is the sorted place of lent row r.
unfoldable pub copies_at : List ℕ → List ℕ → ℕ → List ℕ
copies_at differences place k = new_ones [] (map (first_among differences k (length place)) place)

-- The index of a number in a list.
abbrev pub index_of : ℕ → List ℕ → ℕ
index_of x [] = zero
index_of x (y ∷ ys) =
    let later = suc (index_of x ys) in
    cond (eqb x y) zero later

-- What the copy with the first sorted row x prefers, where the copies of its position are numbered from `number` on. A copy that no lent row
-- has prefers false.
unfoldable pub preferred : List ℕ → ℕ → List ℕ → ℕ → Bool
preferred preferences number copies x = member x copies && prefer preferences (number + index_of x copies)

-- The table with the cells of position k and the first n sorted rows written: 2 where f is true, else 0.
abbrev pub written : (ℕ → Bool) → ℕ → ℕ → List ℕ → List ℕ
written f k zero w = w
written f k (suc i) w = set (written f k i w) (flags + (max_unknowns * i + k)) (2 * weight (f i))

-- The table with position k filled, whose copies are numbered from `number` on.
unfoldable pub filled_at : List ℕ → List ℕ → List ℕ → ℕ → ℕ → List ℕ → List ℕ
filled_at preferences place differences k number w =
    written (λ i. preferred preferences number (copies_at differences place k) (first_place differences k i)) k (length place) w

-- The table with the side's own of some positions filled, of which k is the first; its copies are numbered from `number` on.
abbrev pub filled_from : List ℕ → List ℕ → List ℕ → ℕ → List ℕ → ℕ → ℕ → List ℕ → List ℕ
filled_from preferences place differences side [] k number w = w
filled_from preferences place differences side (kind ∷ kinds) k number w =
    let own =
    filled_from preferences place differences side kinds (suc k) (number + length (copies_at differences place k))
    (filled_at preferences place differences k number w) in
    let other = filled_from preferences place differences side kinds (suc k) number w in
    cond (eqb kind side) own other

-- The lengths of what is lent are those of a table: no more kinds than unknowns and no more places than rows, a split for each row, and the area's
-- bytes.
abbrev pub sized : ℕ → ℕ → ℕ → ℕ → Bool
sized kinds places differences bytes = leb kinds max_unknowns && leb places max_rows && eqb differences max_rows && eqb bytes work_size

-- The table with every position of the side filled; as it was where the lengths are others.
unfoldable pub filled : List ℕ → List ℕ → List ℕ → List ℕ → ℕ → List ℕ → List ℕ
filled kinds preferences place differences side w =
    let all = filled_from preferences place differences side kinds 0 0 w in
    cond (sized (length kinds) (length place) (length differences) (length w)) all w
