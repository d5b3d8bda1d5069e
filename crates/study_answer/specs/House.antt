-- A study as programs and C functions make it: the house list of settings, over 256 rows a side.
-- Assumes nothing.
use Rattle.std.specs.Prelude.{ℕ, ◌≤◌, ◌<◌, ◌≡◌, List, [], ◌∷◌, ℤ, length}
use Rattle.formula.specs.Formula.{max_rows}
use Rattle.rounds.specs.Run.{Answer}
use Rattle.engine.specs.Outcome.{Areas, areas, named}
use Rattle.decision.specs.Decision.{own_rows, own_marks, own_counts}
use Rattle.study.specs.declared.Studied.{Studied}
use Rattle.study.specs.Study.{Ending, settings_of, cause, studied}
use Rattle.study.specs.StudyRight.{StudyRight}

-- The house list, four numbers a setting: trimmed or not, the preference byte (256 for house preferences), how often the universal table is cleared, the
-- limit of rounds. The last is the program's own run.
abbrev pub house_list : List ℕ
house_list =
    1 ∷ 256 ∷ 1 ∷ 1000
    ∷ 1 ∷ 0 ∷ 0 ∷ 1000
    ∷ 0 ∷ 1 ∷ 1 ∷ 1000
    ∷ 0 ∷ 256 ∷ 0 ∷ 1000
    ∷ []

-- '256 rows a side', all zero when the study begins, and the work area lent.
abbrev pub own_areas : List ℕ → Areas
own_areas work = areas own_rows own_marks own_counts own_rows own_marks own_counts work

-- The study of a formula.
abbrev pub house_study : List ℕ → List ℤ → List ℕ → Ending
house_study kinds literals work = studied kinds literals house_list (own_areas work)

-- Of a study that is not refused: its answer is that of a run, its counts are within 256 rows, and its setting is one of the list.
pub record Answered (r : Studied) : Type 0 where
  pub answer : Answer
  pub answer_so : r.outcome.answer ≡ named answer
  pub few_universal : r.outcome.universal ≤ max_rows
  pub few_existential : r.outcome.existential ≤ max_rows
  pub in_list : r.setting < length (settings_of house_list)

-- What is returned, what the work area holds afterwards, and what holds of the answer.
pub record Decided (kinds : List ℕ) (literals : List ℤ) (work : List ℕ) (r : Studied) (work_then : List ℕ) : Type 0 where
  pub result_so : r ≡ (house_study kinds literals work).result
  pub work_so : work_then ≡ (house_study kinds literals work).areas_left.work
  pub right : StudyRight kinds literals house_list (own_areas work)
  pub answered : cause kinds literals house_list (own_areas work) ≡ 0 → Answered r
