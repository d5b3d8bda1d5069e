-- What the definitions of Groups have to do with the rows, as relations: for the search's proofs. No public contract cites them.
-- Assumes nothing.
use Rattle.std.specs.Prelude.{ℕ, ◌≤◌, ◌<◌, ◌≡◌, ◌⊎◌, true, false, List, eqb, length, get_or}
use Rattle.search_cells.specs.Cells.{cells}

-- The rows from `from` up to i have one copy at position k, and the row before does not, unless it is before lo.
pub record CopyFrom (differences : List ℕ) (k lo i from : ℕ) : Type 0 where
  pub low : lo ≤ from
  pub high : from ≤ i
  pub shared : (h : ℕ) → from < h → h ≤ i → k ≤ get_or differences h 0
  pub first : lo < from → get_or differences from 0 < k

-- The rows from i to `to` have one copy at position k, and the next one does not, unless it is hi.
pub record CopyTo (differences : List ℕ) (k i hi to : ℕ) : Type 0 where
  pub low : i < to
  pub high : to ≤ hi
  pub shared : (h : ℕ) → i < h → h < to → k ≤ get_or differences h 0
  pub last : to < hi → get_or differences to 0 < k

-- The rows from lo to hi part first at row mid; at lo if none parts from the one before it.
pub record SplitRow (differences : List ℕ) (lo hi mid : ℕ) : Type 0 where
  pub low : lo ≤ mid
  pub high : mid < hi
  pub before : (h : ℕ) → lo < h → h < mid → get_or differences mid 0 < get_or differences h 0
  pub behind : lo < mid → (h : ℕ) → mid < h → h < hi → get_or differences mid 0 ≤ get_or differences h 0
  pub alone : mid ≡ lo → (h : ℕ) → lo < h → h < hi → 255 ≤ get_or differences h 0

-- The position at which the rows part at mid; n if they do not part before that.
pub record SplitPosition (differences : List ℕ) (lo mid n at : ℕ) : Type 0 where
  pub most : at ≤ n
  pub first : lo < mid → at ≤ get_or differences mid 0
  pub there : at < n → (lo < mid) × (get_or differences mid 0 ≡ at)

-- The positions from k to `at` are the other side's, or set in row lo; `at` is `until`, or is an own position that is open there.
pub record FirstOpen (kinds w : List ℕ) (side k lo until at : ℕ) : Type 0 where
  pub low : k ≤ at
  pub most : at ≤ length kinds
  pub high : k ≤ until → at ≤ until
  pub passed : (j : ℕ) → k ≤ j → j < at → (eqb (get_or kinds j 0) side ≡ false) ⊎ (0 < (cells w).level lo j)
  pub stops : at < until → (eqb (get_or kinds at 0) side ≡ true) × ((cells w).level lo at ≡ 0)
