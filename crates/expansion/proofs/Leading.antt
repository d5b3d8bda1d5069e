-- What plays of a list of rows must be in order to be those of the first model, said row by row and position by position: `Leading`.
-- A play is the list of the values of all unknowns; plays stand in the rows' order.
-- Assumes nothing.
use Prim.Native.Nat.{ℕ, zero, suc, ◌<◌}
use mathlib.Core.Path.{◌≡◌}
use mathlib.Core.Bool.{Bool, true, false, ◌&&◌, cond}
use mathlib.Core.List.{List, [], ◌∷◌}
use mathlib.Core.Logic.{◌⊎◌}
use lib.Dec.{eqb}
use lib.ListN.{length, get_or}
use Rattle.expansion.specs.Play.{Row, restriction, Strategy, play}
use Rattle.expansion.specs.Copies.{Copy, same, copies}
use Rattle.expansion.specs.Model.{wins}
use Rattle.expansion.specs.Cells.{others_before}
use Rattle.expansion.proofs.CopyLaws.{Own}

-- The number of a copy: its place in the list of copies.
abbrev pub number : List Copy → ℕ → Row → ℕ
number [] k r = zero
number (c ∷ cs) k r =
    let later = suc (number cs k r) in
    cond (eqb c.position k && same c.restricted r) zero later

-- 'Copy i prefers preference i': the value that the copy at position k with restriction r prefers.
unfoldable pub wanted : (ℕ → Bool) → List Bool → List Row → Strategy
wanted prefer ts rows k r = prefer (number (copies ts rows) k r)

-- P has a value for each unknown, and at those that are not own it has the row's values.
pub record Fits (ts : List Bool) (row : Row) (P : List Bool) : Type 0 where
  pub whole : length P ≡ length ts
  pub row_values : (k : ℕ) → k < length ts → get_or ts k false ≡ false → get_or P k false ≡ get_or row (others_before ts k) false

-- Each copy has one value: rows with the same restriction have the same value.
abbrev pub Uniform : List Bool → List Row → List (List Bool) → Type 0
Uniform ts rows plays = (i j k : ℕ) → i < length rows → j < length rows → Own ts k
    → restriction ts k (get_or rows i []) ≡ restriction ts k (get_or rows j [])
    → get_or (get_or plays i []) k false ≡ get_or (get_or plays j []) k false

-- P leads Q over one row: at the first position where they differ, if it is own, P has the value that W wants. By index ..
abbrev pub LeadsAt : Strategy → List Bool → Row → List Bool → List Bool → Type 0
LeadsAt W ts row P Q = (k : ℕ) → Own ts k
    → ((j : ℕ) → j < k → get_or P j false ≡ get_or Q j false)
    → (get_or P k false ≡ get_or Q k false) ⊎ (get_or P k false ≡ W k (restriction ts k row))

-- The plays are those of a strategy.
pub record Playing (ts : List Bool) (rows : List Row) (plays : List (List Bool)) : Type 0 where
  pub one_each : length plays ≡ length rows
  pub fits : (i : ℕ) → i < length rows → Fits ts (get_or rows i []) (get_or plays i [])
  pub uniform : Uniform ts rows plays

-- The strategy wins, too, and each play leads those of every strategy that wins over all the rows.
pub record Leading (prefer : ℕ → Bool) (ts : List Bool) (psi : List Bool → Bool) (rows : List Row) (plays : List (List Bool)) : Type 0 where
  pub playing : Playing ts rows plays
  pub reach : (i : ℕ) → i < length rows → psi (get_or plays i []) ≡ true
  pub lead : (σ : Strategy) → wins ts psi σ rows ≡ true → (i : ℕ) → i < length rows
      → LeadsAt (wanted prefer ts rows) ts (get_or rows i []) (get_or plays i []) (play ts σ (get_or rows i []))
