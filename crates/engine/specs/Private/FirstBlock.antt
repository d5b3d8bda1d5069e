-- What an earlier search leaves for one: the values of the first block by position, which a table's last known row has, and the wanted values that
-- they rule out. Assumes nothing.
use Rattle.std.specs.Prelude.{ℕ, ◌-◌, ◌<◌, ◌≤◌, ◌≡◌, ◌⊎◌, Bool, true, not, List, eqb, length, get_or}
use Rattle.rows.specs.Row.{bit_of}
use Rattle.rows.specs.Table.{row_at}
use Rattle.expansion.specs.Cells.{Values}
use Rattle.expansion.specs.Private.Problem.{Problem, Model}
use Rattle.search_cells.specs.Cells.{cells, wants}

-- The value at position k.
abbrev pub said : List ℕ → ℕ → Bool
said block k = eqb (get_or block k 0) 1

-- Every position is own, and where a model first parts from the values, they have the wanted one.
pub record Remembered (P : Problem) (block : List ℕ) : Type 0 where
  pub inside : length block ≤ P.n
  pub own : (k : ℕ) → k < length block → P.own k ≡ true
  pub leads : (m : Values) → Model P m → (k : ℕ) → k < length block → ((j : ℕ) → j < k → said block j ≡ m 0 j)
      → (said block k ≡ m 0 k) ⊎ (said block k ≡ P.wanted 0 k)

-- Neither the value y at position k of row i nor the wanted one is the remembered one, and before k the row has the remembered values.
pub record RuledOut (block w : List ℕ) (i k : ℕ) (y : Bool) : Type 0 where
  pub below : k < length block
  pub other : said block k ≡ not y
  pub unwanted : said block k ≡ not (wants w i k)
  pub before : (j : ℕ) → j < k → said block j ≡ (cells w).value i j

-- The first n entries are the values of as many positions of the side's in row `known` - 1 of its table.
pub record Reads (kinds own : List ℕ) (known side : ℕ) (block : List ℕ) (n : ℕ) : Type 0 where
  pub inside : n ≤ length kinds
  pub some_known : 0 < n → 0 < known
  pub of_side : (k : ℕ) → k < n → get_or kinds k 0 ≡ side
  pub values : (k : ℕ) → k < n → said block k ≡ bit_of (row_at own (known - 1)) k
