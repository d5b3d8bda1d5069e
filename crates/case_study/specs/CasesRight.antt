-- What holds of every decision: its answer is the verdict of the lent formula, whatever the settings, and with a setting for cases and no bound there is
-- always an answer. And all that `decide` promises.
-- Assumes nothing.
use Rattle.std.specs.Prelude.{ℕ, ◌≡◌, ◌≢◌, true, false, List, ℤ, length}
use Rattle.formula.specs.Meaning.{verdict}
use Rattle.engine.specs.declared.run.Answer.TheVariants.{False, True}
use Rattle.engine.specs.Outcome.{Areas}
use Rattle.study.specs.StudyRight.{answer_of}
use Rattle.case_study.specs.declared.Decided.{Decided}
use Rattle.case_study.specs.Decided.{cause, ending, decided}

pub record CasesRight (kinds : List ℕ) (literals : List ℤ) (settings cases : List ℕ) (bound : ℕ) (found : Areas) : Type 0 where
  pub only_true : (decided kinds literals settings cases bound found).result.outcome.answer ≡ True → verdict kinds literals ≡ true
  pub only_false : (decided kinds literals settings cases bound found).result.outcome.answer ≡ False → verdict kinds literals ≡ false
  -- An answer for every formula that is accepted: one row a side and one round are enough.
  pub always : cause kinds literals settings cases found ≡ 0 → length cases ≢ 0 → bound ≡ 0
      → (decided kinds literals settings cases bound found).result.outcome.answer ≡ answer_of (verdict kinds literals)

pub record Decides (kinds : List ℕ) (literals : List ℤ) (settings cases : List ℕ) (bound : ℕ) (found : Areas) (r : Decided) (exit : Areas) : Type 0 where
  pub decided_so : ending r.outcome r.setting r.runs r.depth exit ≡ decided kinds literals settings cases bound found
  pub right : CasesRight kinds literals settings cases bound found
