-- Bits beyond a row's unknowns: cause 8 of the search and the judge. Assumes nothing.
use Rattle.std.specs.Prelude.{ℕ, ◌*◌, Bool, List, drop}
use Rattle.formula.specs.Causes.{any}
use Rattle.rows.specs.Row.{values, row_of}
use Rattle.rows.specs.Table.{row_at}

-- A row's bits, eight to a byte.
abbrev pub row_bits : ℕ
row_bits = 8 * 16

-- 'A bit set beyond its unknowns', of which there are m: one of a row's bits, at or beyond m.
unfoldable pub stray : ℕ → List ℕ → Bool
stray m bytes = any (λ v. v) (drop m (row_of row_bits bytes))

-- Cause 8: 'in a row below the count, a bit set beyond its unknowns', of which there are m.
unfoldable pub stray_rows : ℕ → ℕ → List ℕ → Bool
stray_rows m count table = any (λ v. v) (values count (λ i. stray m (row_at table i)))
