-- Values by row and position, and the table that a search keeps of them. No definition of 01's cites it: it serves the crates of the search.
-- Assumes nothing.
use Rattle.std.specs.Prelude.{ℕ, zero, suc, Bool, true, false, List, [], ◌∷◌}

-- A value for each row and position.
abbrev pub Values : Type 0
Values = ℕ → ℕ → Bool

-- A cell for each row and position. The level is 0 in an open cell, else one more than the level; an open cell's value means nothing.
pub record Cells : Type 0 where
  pub level : ℕ → ℕ → ℕ
  pub value : Values

-- How many of the unknowns before position k are not own: the place of position k's value in a row, if it is not own itself.
abbrev pub others_before : List Bool → ℕ → ℕ
others_before ts zero = zero
others_before [] (suc k) = zero
others_before (true ∷ ts) (suc k) = others_before ts k
others_before (false ∷ ts) (suc k) = suc (others_before ts k)

-- The values of a function at 0, 1, .. and n - 1.
abbrev pub tabulate : {A : Type 0} → ℕ → (ℕ → A) → List A
tabulate zero f = []
tabulate (suc n) f = f zero ∷ tabulate n (λ j. f (suc j))
