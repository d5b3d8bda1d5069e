-- What private functions promise. Assumes nothing.
use Rattle.std.specs.Prelude.{ℕ, suc, ◌*◌, ◌≤◌, ◌≡◌, List, length, take}
use Rattle.formula.specs.Formula.{max_rows}
use Rattle.rows.specs.Table.{table_of}
use Rattle.rounds.specs.Run.{Table, rows, is_false, is_true, Outcome}
use Rattle.engine.specs.Outcome.{named}
use Rattle.engine.specs.declared.run.Outcome.{Outcome as Returned}

-- The table's rows stand at the start of these bytes.
abbrev pub Front : Table → List ℕ → Type 0
Front t bytes = take (16 * length t) bytes ≡ table_of (rows t)

-- The outcome of a run with 256 rows a side, as it was returned and as its rows were left; the side that settled it has a row.
pub record Ran (o : Outcome) (r : Returned) (universal existential : List ℕ) : Type 0 where
  pub answer_so : r.answer ≡ named o.answer
  pub round_so : r.round ≡ o.round
  pub universal_so : r.universal ≡ length o.A
  pub existential_so : r.existential ≡ length o.S
  pub universal_front : Front o.A universal
  pub existential_front : Front o.S existential
  pub universal_there : 16 * length o.A ≤ length universal
  pub existential_there : 16 * length o.S ≤ length existential
  pub few_universal : length o.A ≤ max_rows
  pub few_existential : length o.S ≤ max_rows
  pub few_rounds : o.round ≤ suc max_rows
  pub some_universal : o.answer ≡ is_false → 1 ≤ length o.A
  pub some_existential : o.answer ≡ is_true → 1 ≤ length o.S
