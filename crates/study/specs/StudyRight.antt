-- What holds of every study: its answer is the verdict of the lent formula, whatever the settings, and the verdict comes if one of the settings has a
-- run that 01 or 02 promises it of. And all that `study` promises.
-- Assumes nothing.
use Rattle.std.specs.Prelude.{ℕ, ◌^◌, ◌≤◌, ◌≡◌, Bool, true, false, List, ℤ, replicate}
use Rattle.std.proofs.Math.Option.{some}
use Rattle.std.proofs.Math.ListN.{get_elem?}
use Rattle.formula.specs.Formula.{work_size, existential, universal, prefix}
use Rattle.formula.specs.Causes.{count}
use Rattle.formula.specs.Meaning.{verdict}
use Rattle.rows.specs.Table.{room}
use Rattle.rounds.specs.Run.{Answer as RunAnswer}
use Rattle.rounds.specs.Claim.{most_rounds}
use Rattle.engine.specs.declared.run.Answer.{Answer}
use Rattle.engine.specs.declared.run.Answer.TheVariants.{False, True}
use Rattle.engine.specs.Outcome.{Areas, lent, accepted, named}
use Rattle.engine.specs.Ended.{Ended}
use Rattle.study.specs.declared.Setting.{Setting}
use Rattle.study.specs.declared.Studied.{Studied}
use Rattle.study.specs.Study.{settings_of, given_of, cause, ending, studied}

-- The answer that the verdict is.
abbrev pub answer_of : Bool → Answer
answer_of true = True
answer_of false = False

-- 'A run with 2^a universal and 2^e existential rows and that limit answers the verdict': a and e are the numbers of universal and existential
-- unknowns, and the limit is min(2^a, 2^e + 1), or 2^e + 1 if the universal table is ever cleared.
pub record Promised (kinds : List ℕ) (literals : List ℤ) (found : Areas) (s : Setting) : Type 0 where
  pub universal_rows : 2 ^ count universal (prefix kinds) ≤ room found.universal_rows
  pub existential_rows : 2 ^ count existential (prefix kinds) ≤ room found.existential_rows
  pub rounds : most_rounds (lent (given_of kinds literals s found)) ≤ s.limit

pub record StudyRight (kinds : List ℕ) (literals : List ℤ) (settings : List ℕ) (found : Areas) : Type 0 where
  pub only_true : (studied kinds literals settings found).result.outcome.answer ≡ True → verdict kinds literals ≡ true
  pub only_false : (studied kinds literals settings found).result.outcome.answer ≡ False → verdict kinds literals ≡ false
  pub decided : cause kinds literals settings found ≡ 0
      → (i : ℕ) (s : Setting) → get_elem? (settings_of settings) i ≡ some s → Promised kinds literals found s
      → (studied kinds literals settings found).result.outcome.answer ≡ answer_of (verdict kinds literals)
  -- A study that is not refused answers as a run does, and leaves the work area zero.
  pub answered : cause kinds literals settings found ≡ 0 → (a : RunAnswer) × ((studied kinds literals settings found).result.outcome.answer ≡ named a)
  pub area : cause kinds literals settings found ≡ 0 → (studied kinds literals settings found).areas_left.work ≡ replicate work_size 0

-- The run that gave the outcome: that of the setting named, over its formula and the areas that it found. All that is promised of a run holds of it;
-- rows, marks, counts and opening belong to its formula, which is the trimmed one if the setting trims.
pub record LastRun (kinds : List ℕ) (literals : List ℤ) (settings : List ℕ) (r : Studied) (exit : Areas) : Type 0 where
  pub setting : Setting
  pub listed : get_elem? (settings_of settings) r.setting ≡ some setting
  pub found : Areas
  pub accepted_run : accepted (given_of kinds literals setting found) ≡ true
  pub ended : Ended (given_of kinds literals setting found) r.outcome exit

pub record Studies (kinds : List ℕ) (literals : List ℤ) (settings : List ℕ) (found : Areas) (r : Studied) (exit : Areas) : Type 0 where
  pub studied_so : ending r.outcome r.setting exit ≡ studied kinds literals settings found
  pub right : StudyRight kinds literals settings found
  pub last : cause kinds literals settings found ≡ 0 → LastRun kinds literals settings r exit
