-- 01: 'The program .. lends no preferences, 256 rows a side'; the C door 'lends no preferences, has 256 rows a side of its own'.
-- Assumes nothing.
use Rattle.std.specs.Prelude.{ℕ, ◌*◌, ◌≡◌, List, [], ℤ, replicate}
use Rattle.formula.specs.Formula.{max_rows, prefix, clauses}
use Rattle.formula.specs.Meaning.{matrix}
use Rattle.preference.specs.Preference.{prefer}
use Rattle.rounds.specs.Run.{Lent}
use Rattle.engine.specs.declared.run.Outcome.{Outcome}
use Rattle.engine.specs.Outcome.{Given, areas, given, returned, left}

-- '256 rows a side': a row is 16 bytes, and a mark table has one number a row, as has a table of counts. All are zero when the run begins.
abbrev pub own_rows : List ℕ
own_rows = replicate (16 * max_rows) 0

abbrev pub own_marks : List ℕ
own_marks = replicate max_rows 0

abbrev pub own_counts : List ℕ
own_counts = replicate max_rows 0

-- What the run is given: the formula, no preferences, the rows lent, marks and counts of its own, the work area and the limit; the universal table is
-- never cleared.
abbrev pub with_rows : List ℕ → List ℤ → List ℕ → List ℕ → List ℕ → ℕ → Given
with_rows kinds literals universal existential work limit =
    given kinds literals [] (areas universal own_marks own_counts existential own_marks own_counts work) limit 0

-- The same with rows of its own.
abbrev pub handed_on : List ℕ → List ℤ → List ℕ → ℕ → Given
handed_on kinds literals work limit = with_rows kinds literals own_rows own_rows work limit

-- The same as the run's definition takes it.
abbrev pub own_lent : List ℕ → List ℤ → Lent
own_lent kinds literals =
    record { ks = prefix kinds; phi = matrix (clauses literals); prefer = prefer []; room_a = max_rows; room_s = max_rows; clear_every = 0 }

-- What is returned, and what the rows and the work area hold afterwards.
pub record Decided (g : Given) (r : Outcome) (universal existential work : List ℕ) : Type 0 where
  pub returned_so : r ≡ returned g
  pub universal_so : universal ≡ (left g).universal_rows
  pub existential_so : existential ≡ (left g).existential_rows
  pub work_so : work ≡ (left g).work
