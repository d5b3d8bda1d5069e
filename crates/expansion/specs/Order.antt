-- The order of models, and what the first model is.
-- Assumes nothing.
use Rattle.std.specs.Prelude.{ℕ, ◌<◌, ◌≡◌, Bool, true, false, not, List, ◌⊎◌, length, get_or}

-- Two lists of values part at place i: they agree before it, and at i the first has the preferred value and the second has the other one.
pub record PartsAt (prefer : ℕ → Bool) (vs ws : List Bool) (i : ℕ) : Type 0 where
  pub agree : (j : ℕ) → j < i → get_or vs j false ≡ get_or ws j false
  pub preferred : get_or vs i false ≡ prefer i
  pub unlike : get_or ws i false ≡ not (prefer i)

-- 'Of two models, the first is the one that has the preferred value at the lowest copy where they differ; copy i prefers preference i.'
abbrev pub Leads : (ℕ → Bool) → List Bool → List Bool → Type 0
Leads prefer vs ws = (vs ≡ ws) ⊎ ((i : ℕ) × PartsAt prefer vs ws i)

-- The first of the lists of m values that pass the test: it passes, and it leads every other one that does.
pub record IsFirst (prefer : ℕ → Bool) (m : ℕ) (test : List Bool → Bool) (vs : List Bool) : Type 0 where
  pub sized : length vs ≡ m
  pub passes : test vs ≡ true
  pub leads : (ws : List Bool) → length ws ≡ m → test ws ≡ true → Leads prefer vs ws
