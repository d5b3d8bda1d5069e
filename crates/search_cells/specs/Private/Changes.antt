-- How tables of cells differ, as relations: for the laws of the definitions and the private contracts of the search. No public contract cites them.
-- Assumes nothing.
use Rattle.std.specs.Prelude.{ℕ, ◌+◌, ◌≤◌, ◌<◌, ◌≡◌, ◌≢◌, Bool, false, List, length, get_or}
use Rattle.rows.specs.Row.{bit_of}
use Rattle.rows.specs.Table.{row_at}
use Rattle.expansion.specs.Cells.{others_before}
use Rattle.expansion.specs.Private.Node.{Stored, Cleared}
use Rattle.search_cells.specs.Cells.{cells, wants, owned}

-- What every cell wants stays as it is.
abbrev pub SameWants : List ℕ → List ℕ → Type 0
SameWants w u = (i k : ℕ) → wants u i k ≡ wants w i k

-- The cells of the rows lo to hi at position k get a level and a value.
pub record CellsSet (k lo hi level : ℕ) (value : Bool) (w u : List ℕ) : Type 0 where
  pub stored : Stored lo hi k level value (cells w) (cells u)
  pub wanted : SameWants w u

-- The cells of the rows lo to hi with a level over the bound are opened.
pub record CellsOpened (lo hi bound : ℕ) (w u : List ℕ) : Type 0 where
  pub cleared : Cleared (bound + 1) lo hi (cells w) (cells u)
  pub wanted : SameWants w u

-- An open cell gets what it wants; its value means nothing.
pub record WantSet (i k : ℕ) (wanted : Bool) (w u : List ℕ) : Type 0 where
  pub there : wants u i k ≡ wanted
  pub elsewhere : (h j : ℕ) → ((h ≡ i) × (j ≡ k) → ⊥) → (wants u h j ≡ wants w h j) × ((cells u).value h j ≡ (cells w).value h j)
  pub levels : (h j : ℕ) → (cells u).level h j ≡ (cells w).level h j

-- Row `row` of the lent rows stands at place i: the cells of the other side's unknowns are set to its values, at level 0; the other cells
-- of the table stay.
pub record RowFilled (kinds rows : List ℕ) (row i side : ℕ) (w u : List ℕ) : Type 0 where
  pub there : (k : ℕ) → k < length kinds → get_or (owned kinds side) k false ≡ false
      → ((cells u).level i k ≡ 1) × ((cells u).value i k ≡ bit_of (row_at rows row) (others_before (owned kinds side) k))
  pub elsewhere : (h k : ℕ) → ((h ≡ i) × (k < length kinds) × (get_or (owned kinds side) k false ≡ false) → ⊥)
      → ((cells u).level h k ≡ (cells w).level h k) × ((cells u).value h k ≡ (cells w).value h k)

-- Every lent row stands at its place, and nothing else changes.
pub record Filled (kinds rows place : List ℕ) (side : ℕ) (w u : List ℕ) : Type 0 where
  pub there : (row k : ℕ) → row < length place → k < length kinds → get_or (owned kinds side) k false ≡ false
      → ((cells u).level (get_or place row 0) k ≡ 1)
      × ((cells u).value (get_or place row 0) k ≡ bit_of (row_at rows row) (others_before (owned kinds side) k))
  pub elsewhere : (h k : ℕ) → ((k < length kinds) × (get_or (owned kinds side) k false ≡ false) → ⊥)
      → ((cells u).level h k ≡ (cells w).level h k) × ((cells u).value h k ≡ (cells w).value h k)
  pub unplaced : (h k : ℕ) → ((row : ℕ) → row < length place → h ≡ get_or place row 0 → ⊥)
      → ((cells u).level h k ≡ (cells w).level h k) × ((cells u).value h k ≡ (cells w).value h k)

-- d is the first position of the other side where the rows i and i + 1 of the table have different values; the number of unknowns if there is none.
pub record FirstDifference (kinds : List ℕ) (side : ℕ) (w : List ℕ) (i d : ℕ) : Type 0 where
  pub most : d ≤ length kinds
  pub same : (j : ℕ) → j < d → get_or (owned kinds side) j false ≡ false → (cells w).value i j ≡ (cells w).value (i + 1) j
  pub other : d < length kinds → get_or (owned kinds side) d false ≡ false
  pub unlike : d < length kinds → (cells w).value i d ≢ (cells w).value (i + 1) d
