-- What a search may take over from an earlier one: a row of the side's that no model is before. Assumes nothing.
use Rattle.std.specs.Prelude.{ℕ, ◌<◌, ◌≤◌, ◌≡◌, Bool, true, false, List, [], ◌⊎◌, get_or}
use Rattle.expansion.specs.Play.{Row, Strategy}
use Rattle.expansion.specs.Model.{wins}

-- As long as the prefix is the side's own (ts flags it), an unknown has one copy, numbered by its position, whatever the rows are. A row of the side's
-- leads the models over the others' rows if there, where a model first parts from it, the row has the preferred value.
abbrev pub LeadsModels : (ℕ → Bool) → List Bool → (List Bool → Bool) → List Row → Row → Type 0
LeadsModels prefer ts psi rows known =
    (σ : Strategy) → wins ts psi σ rows ≡ true
    → (k : ℕ) → ((j : ℕ) → j ≤ k → get_or ts j false ≡ true) → ((j : ℕ) → j < k → get_or known j false ≡ σ j [])
    → (get_or known k false ≡ σ k []) ⊎ (get_or known k false ≡ prefer k)
