-- How many kinds from the start on are equal, and the first bits of a row.
-- Assumes nothing.
use Rattle.std.specs.Prelude.{ℕ, suc, cond, List, [], ◌∷◌, eqb}
use Rattle.rows.specs.Row.{row_of, bytes_of}
use Rattle.rows.specs.Table.{row_at}

-- 'The longest start of the prefix that is of one kind': how many entries equal to a number stand before the first that is not.
abbrev pub equal_from_start : ℕ → List ℕ → ℕ
equal_from_start kind [] = 0
equal_from_start kind (k ∷ kinds) = cond (eqb k kind) (suc (equal_from_start kind kinds)) 0

-- 'They come as a row, other bits zero': the values of the first unknowns of row i, as a row's bytes. A row that is not wholly inside the table has
-- no bit set.
unfoldable pub first_bits : List ℕ → ℕ → ℕ → List ℕ
first_bits table i m = bytes_of (row_of m (row_at table i))
