-- What holds of every forecast that is given (02, C-17).
-- Assumes nothing.
use Rattle.std.specs.Prelude.{ℕ, ◌*◌, ◌≤◌, ◌≡◌, true, ◌≢◌, Result}
use Rattle.cause.specs.declared.Cause.{Cause}
use Rattle.formula.specs.Formula.{existential, universal, prefix, clauses}
use Rattle.formula.specs.Meaning.{matrix}
use Rattle.rows.specs.Table.{room}
use Rattle.rounds.specs.Run.{Table, rows, no_room_existential, Lent, round_of}
use Rattle.forecast.specs.declared.Outlook.{Outlook}
use Rattle.forecast.specs.Outcome.{Given, width, lent_rows, copies_over, fits, cause, outcome, number}

-- Tables of a run that hold the lent rows; their marks are free.
pub record Holds (g : Given) (A S : Table) : Type 0 where
  pub of_a : rows A ≡ lent_rows universal g.kinds g.universal_rows g.universals
  pub of_s : rows S ≡ lent_rows existential g.kinds g.existential_rows g.existentials

-- A run of the formula with room for the existential rows that are lent. All else that a run is given is free: preferences and universal room too.
pub record Over (g : Given) (l : Lent) : Type 0 where
  pub of_prefix : l.ks ≡ prefix g.kinds
  pub of_matrix : l.phi ≡ matrix (clauses g.literals)
  pub of_room : l.room_s ≡ room g.existential_rows

-- 'If they do, step 2 of a round from these tables can't end in no room': for every such run, round number and tables.
abbrev pub Spared : Given → Type 0
Spared g =
    fits g.universals g.existential_rows g.existentials ≡ true
    → (l : Lent) → Over g l → (r : ℕ) (A S : Table) → Holds g A S → (round_of l r A S).answer ≢ no_room_existential

-- 'The copies .. never exceed unknowns times rows': the unknowns that have the copies, and the rows below the count.
pub record Bounded (g : Given) : Type 0 where
  pub over_universal : copies_over universal g.kinds g.universal_rows g.universals ≤ width existential g.kinds * g.universals
  pub over_existential : copies_over existential g.kinds g.existential_rows g.existentials ≤ width universal g.kinds * g.existentials

pub record ForecastRight (g : Given) : Type 0 where
  pub spared : Spared g
  pub bounded : Bounded g

-- All that `forecast` promises: what it returns and its number, and the statements for every accepted input.
pub record Foretold (g : Given) (result : Result Outlook Cause) : Type 0 where
  pub returned : result ≡ outcome g
  pub numbered : number result ≡ cause g
  pub right : cause g ≡ 0 → ForecastRight g
