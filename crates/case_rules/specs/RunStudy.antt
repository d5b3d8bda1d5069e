-- Any run of rounds as a study: the values that are set may choose whatever it is lent besides the formula. Assumes nothing.
use Rattle.std.specs.Prelude.{ℕ, ◌≤◌, Bool, true, false, List, ℤ}
use Rattle.std.proofs.Math.Option.{Option, none, some}
use Rattle.formula.specs.Formula.{prefix, clauses}
use Rattle.formula.specs.Meaning.{matrix}
use Rattle.rounds.specs.Run.{Answer, is_false, is_true, spent, no_room_universal, no_room_existential, Lent, run}
use Rattle.case_rules.specs.ByCases.{Study, RightStudy, EndsStudy}

abbrev pub answer_as : Answer → Option Bool
answer_as is_false = some false
answer_as is_true = some true
answer_as spent = none
answer_as no_room_universal = none
answer_as no_room_existential = none

module _ (prefer : List Bool → ℕ → Bool) (room_a room_s clear_every limit : List Bool → ℕ) where
  abbrev pub lent_at : List Bool → List ℕ → List ℤ → Lent
  lent_at path kinds literals =
      record {
        ks = prefix kinds;
        phi = matrix (clauses literals);
        prefer = prefer path;
        room_a = room_a path;
        room_s = room_s path;
        clear_every = clear_every path;
      }

  abbrev pub run_study : Study
  run_study path kinds literals = answer_as (run (lent_at path kinds literals) (limit path)).answer

  -- It is right where it answers, with any preferences, tables and limits.
  abbrev pub RunRight : Type 0
  RunRight = RightStudy run_study

  -- With at least one row a side and one round it answers where no unknown is left.
  abbrev pub RunEnds : Type 0
  RunEnds = ((path : List Bool) → (1 ≤ room_a path) × ((1 ≤ room_s path) × (1 ≤ limit path))) → EndsStudy run_study
