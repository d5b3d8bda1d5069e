-- Rows, and what a row and a strategy make together. A row gives values to one side's unknowns (an assignment of that side); a strategy
-- gives values to the copies of the other side's unknowns (annotated variables). Throughout, ts flags the strategy's own unknowns. Assumes nothing.
use Rattle.std.specs.Prelude.{ℕ, zero, suc, Bool, true, false, List, [], ◌∷◌}

-- A row: the value of the k-th unknown of its kind at place k.
abbrev pub Row : Type 0
Row = List Bool

-- The first value of a row, and the values behind it.
abbrev pub first_value : Row → Bool
first_value [] = false
first_value (b ∷ bs) = b

abbrev pub later_values : Row → Row
later_values [] = []
later_values (b ∷ bs) = bs

-- The restriction of a row to the unknowns of its kind before position k.
abbrev pub restriction : List Bool → ℕ → Row → Row
restriction ts zero row = []
restriction [] (suc k) row = []
restriction (true ∷ ts) (suc k) row = restriction ts k row
restriction (false ∷ ts) (suc k) row = first_value row ∷ restriction ts k (later_values row)

-- A strategy: a value for each own unknown, by its position and a restriction of a row. Rows with the same restriction get the same value.
abbrev pub Strategy : Type 0
Strategy = ℕ → Row → Bool

-- What is left of a strategy behind the first unknown: an own one, or one that has the value b in the row.
abbrev pub past_own : Strategy → Strategy
past_own σ k r = σ (suc k) r

abbrev pub past_row : Bool → Strategy → Strategy
past_row b σ k r = σ (suc k) (b ∷ r)

-- 'The row and its copies': the values of all unknowns in prefix order.
abbrev pub play : List Bool → Strategy → Row → List Bool
play [] σ row = []
play (true ∷ ts) σ row = σ zero [] ∷ play ts (past_own σ) row
play (false ∷ ts) σ row = first_value row ∷ play ts (past_row (first_value row) σ) (later_values row)

-- The own values among the values of all unknowns.
abbrev pub part : List Bool → List Bool → Row
part [] vs = []
part (true ∷ ts) vs = first_value vs ∷ part ts (later_values vs)
part (false ∷ ts) vs = part ts (later_values vs)

-- The row that a row yields under a strategy.
abbrev pub yield : List Bool → Strategy → Row → Row
yield ts σ row = part ts (play ts σ row)
