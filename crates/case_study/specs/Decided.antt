-- What `decide` returns and leaves, for everything that is lent: the causes in order, then the study, then, where no setting answers, the cases.
-- Assumes nothing.
use Rattle.std.specs.Prelude.{ℕ, ◌/◌, Bool, true, false, not, ◌||◌, cond, List, eqb, ℤ, length, replicate}
use Rattle.std.proofs.Math.Option.{Option, none, some}
use Rattle.formula.specs.Causes.{any}
use Rattle.engine.specs.declared.run.Answer.{Answer}
use Rattle.engine.specs.declared.run.Answer.TheVariants.{False, True, Spent}
use Rattle.engine.specs.declared.run.Outcome.{Outcome}
use Rattle.engine.specs.Outcome.{Areas, refusal}
use Rattle.study.specs.declared.Setting.{Setting}
use Rattle.study.specs.Study.{setting_from, settings_of, formula_of, unknown, no_round, cause as study_cause, is_verdict, studied}
use Rattle.study.specs.Study as Study
use Rattle.case_study.specs.declared.Progress.{Progress}
use Rattle.case_study.specs.declared.Decided.{Decided}
use Rattle.case_study.specs.Cases.{state, by_run, Told, decide_by}

-- Of the cases' setting, which is four numbers or none: cause 28 for another length or an unknown field, then 6 for the limit 0.
unfoldable pub cases_cause : List ℕ → ℕ
cases_cause cases =
    let of_setting : ℕ =
    cond (not (eqb (length cases) 4) || any unknown (settings_of cases)) 28 (cond (any no_round (settings_of cases)) 6 0) in
    cond (eqb (length cases) 0) 0 of_setting

-- The first of the causes that applies, or 0: the study's, then those of the cases' setting.
unfoldable pub cause : List ℕ → List ℤ → List ℕ → List ℕ → Areas → ℕ
cause kinds literals settings cases found =
    let of_study : ℕ = study_cause kinds literals settings found in
    cond (eqb of_study 0) (cases_cause cases) of_study

-- What is returned, the outcome, which setting gave it, the runs made by cases and the most unknowns that were set; and what is left in the areas.
pub record Ending : Type 0 where
  pub result : Decided
  pub areas_left : Areas

abbrev pub ending : Outcome → ℕ → ℕ → ℕ → Areas → Ending
ending o setting runs depth a = record { result = record { outcome = o; setting = setting; runs = runs; depth = depth }; areas_left = a }

abbrev pub no_runs : Progress
no_runs = record { universal = 0; existential = 0; runs = 0; rounds = 0; depth = 0 }

-- The cases under a setting.
unfoldable pub by_cases : List ℕ → List ℤ → Setting → ℕ → Areas → Told
by_cases kinds literals s bound found =
    decide_by s bound (length kinds) by_run kinds (formula_of s.trim kinds literals) (state found no_runs)

abbrev pub answer_told : Option Bool → Answer
answer_told none = Spent
answer_told (some true) = True
answer_told (some false) = False

-- By cases there is no opening.
abbrev pub outcome_of : Option Bool → Progress → Outcome
outcome_of answer p =
    record {
      answer = answer_told answer;
      round = p.rounds;
      universal = p.universal;
      existential = p.existential;
      opening = replicate 16 0;
      block = 0;
    }

abbrev pub told_ending : ℕ → Told → Ending
told_ending settings t =
    let p = t.state_then.made in ending (outcome_of t.answer p) settings p.runs p.depth t.state_then.areas_so

-- The study's own ending where a setting answers, or no setting for cases is lent; else that of the cases, over the areas that the study leaves, with
-- the number of settings in place of a setting's.
abbrev pub study_ending : Study.Ending → Ending
study_ending e = ending e.result.outcome e.result.setting 0 0 e.areas_left

unfoldable pub accepted_ending : List ℕ → List ℤ → List ℕ → List ℕ → ℕ → Areas → Ending
accepted_ending kinds literals settings cases bound found =
    let e = studied kinds literals settings found in
    let cased = told_ending (length settings / 4) (by_cases kinds literals (setting_from cases) bound e.areas_left) in
    cond (is_verdict e.result.outcome.answer || eqb (length cases) 0) (study_ending e) cased

-- After a refusal everything lent is as found.
unfoldable pub decided : List ℕ → List ℤ → List ℕ → List ℕ → ℕ → Areas → Ending
decided kinds literals settings cases bound found =
    let answered = accepted_ending kinds literals settings cases bound found in
    let number : ℕ = cause kinds literals settings cases found in
    cond (eqb number 0) answered (ending (refusal number) 0 0 0 found)
