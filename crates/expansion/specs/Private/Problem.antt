-- The problem of a search over tables of values, and what a search may conclude of it early: that no model has some values, or that every model
-- that has them has another one. Assumes nothing.
use Rattle.std.specs.Prelude.{ℕ, ◌<◌, ◌≡◌, Bool, true, false}
use Rattle.expansion.specs.Cells.{Values}

-- A set of positions.
abbrev pub Mask : Type 0
Mask = ℕ → Bool

-- The problem of a search: n unknowns, of which the side owns some, over `count` rows that give the others their values; the side's goal
-- over the values of all unknowns; and the value that each copy prefers, by a row that has it and its position.
pub record Problem : Type 0 where
  pub n : ℕ
  pub count : ℕ
  pub own : ℕ → Bool
  pub given : Values
  pub goal : (ℕ → Bool) → Bool
  pub wanted : Values

-- Rows i and h have the same values before position k, so they share every copy up to k.
abbrev pub Agree : Problem → ℕ → ℕ → ℕ → Type 0
Agree P i h k = (l : ℕ) → l < k → P.own l ≡ false → P.given i l ≡ P.given h l

-- The goal looks at the n unknowns alone, and rows that share a copy want the same of it.
pub record Sound (P : Problem) : Type 0 where
  pub goal_of_values : (f g : ℕ → Bool) → ((j : ℕ) → j < P.n → f j ≡ g j) → P.goal f ≡ true → P.goal g ≡ true
  pub wanted_alike : (i h j : ℕ) → i < P.count → h < P.count → j < P.n → P.own j ≡ true → Agree P i h j → P.wanted i j ≡ P.wanted h j

pub record Model (P : Problem) (m : Values) : Type 0 where
  pub follows : (i j : ℕ) → i < P.count → j < P.n → P.own j ≡ false → m i j ≡ P.given i j
  pub uniform : (i h j : ℕ) → i < P.count → h < P.count → j < P.n → P.own j ≡ true → Agree P i h j → m i j ≡ m h j
  pub reaches : (i : ℕ) → i < P.count → P.goal (m i) ≡ true

-- The model has the values v at the mask's positions below k, in row i.
abbrev pub Heeds : Values → ℕ → ℕ → (ℕ → Bool) → Mask → Type 0
Heeds m i k v D = (l : ℕ) → l < k → D l ≡ true → m i l ≡ v l

-- No model heeds the mask; every model that heeds it has the value y at j.
abbrev pub Refuted : Problem → ℕ → (ℕ → Bool) → Mask → ℕ → Type 0
Refuted P k v D i = (m : Values) → Model P m → Heeds m i k v D → ⊥

abbrev pub Implied : Problem → ℕ → (ℕ → Bool) → Mask → ℕ → ℕ → Bool → Type 0
Implied P k v D i j y = (m : Values) → Model P m → Heeds m i k v D → m i j ≡ y

-- One mask lies in another, as far as the positions below k go; two lines of values are the same below k.
abbrev pub Within : ℕ → Mask → Mask → Type 0
Within k D E = (l : ℕ) → l < k → D l ≡ true → E l ≡ true

abbrev pub SameBelow : ℕ → (ℕ → Bool) → (ℕ → Bool) → Type 0
SameBelow k v w = (l : ℕ) → l < k → v l ≡ w l
