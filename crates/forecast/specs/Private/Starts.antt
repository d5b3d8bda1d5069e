-- How far the rows of a table agree from their first bits on: what the private functions of `forecast` promise each other. No statement cites it.
-- Assumes nothing.
use Rattle.std.specs.Prelude.{ℕ, zero, suc, ◌+◌, ◌/◌, ◌%◌, ◌^◌, ◌≤◌, ◌<◌, ◌≡◌, Bool, true, false, ◌≢◌, List, [], ◌∷◌, leb, get_or}
use Rattle.rows.specs.Row.{bit_of, weight}
use Rattle.rows.specs.Stray.{row_bits}
use Rattle.rows.specs.Table.{row_at}

-- Two bytes agree in their r lowest bits and no further.
pub record AlikeBits (a b r : ℕ) : Type 0 where
  pub most : r ≤ 8
  pub alike : (t : ℕ) → t < r → a / 2 ^ t % 2 ≡ b / 2 ^ t % 2
  pub unlike : r < 8 → a / 2 ^ r % 2 ≢ b / 2 ^ r % 2

-- Two rows agree in their first n bits.
abbrev pub Alike : List ℕ → List ℕ → ℕ → Type 0
Alike row other n = (k : ℕ) → k < n → bit_of row k ≡ bit_of other k

-- n is the longest start that two rows share, in bits.
pub record Shared (row other : List ℕ) (n : ℕ) : Type 0 where
  pub most : n ≤ row_bits
  pub alike : Alike row other n
  pub unlike : n < row_bits → bit_of row n ≢ bit_of other n

-- n bits from the start are the fewest that tell row i from each of the first j rows; one more than a row has if no number of them does.
-- That is 0 if j is 0, else one more than the longest start that row i shares with one of them.
pub record Tells (table : List ℕ) (i j n : ℕ) : Type 0 where
  pub most : n ≤ row_bits + 1
  pub enough : n ≤ row_bits → (q : ℕ) → q < j → Alike (row_at table i) (row_at table q) n → ⊥
  pub fewest : (m : ℕ) → m < n → (q : ℕ) × (q < j) × Alike (row_at table i) (row_at table q) m

-- Each of the first n rows has the number that tells it from the rows before it.
abbrev pub Told : List ℕ → List ℕ → ℕ → Type 0
Told table numbers n = (i : ℕ) → i < n → Tells table i i (get_or numbers i 0)

-- How many of the first n numbers are at most b: so many of the first n rows differ from each earlier one in their first b bits.
abbrev pub within : List ℕ → ℕ → ℕ → ℕ
within numbers b zero = 0
within numbers b (suc n) = within numbers b n + weight (leb (get_or numbers n 0) b)

-- The same at each own unknown, added up; b of the others' unknowns stand before the first.
abbrev pub summed : (ℕ → ℕ) → ℕ → List Bool → ℕ
summed new b [] = 0
summed new b (true ∷ ts) = new b + summed new b ts
summed new b (false ∷ ts) = summed new (b + 1) ts
