-- Of a decision that has an answer, over kinds that a formula has: the line is the record of its study, and the sheet takes it. The programs' limit is
-- 1,000 rounds, so no decision of theirs comes near the sheet's largest fee. Assumes nothing.
use Rattle.std.specs.Prelude.{ℕ, ◌≤◌, ◌≡◌, false, List}
use Rattle.formula.specs.Causes.{cause_1}
use Rattle.rounds.specs.Run.{Answer as RunAnswer}
use Rattle.engine.specs.Outcome.{named}
use Rattle.season.specs.Season.{max_answer, max_fee}
use Rattle.season_record.specs.Records.{line_of, Recordable}
use Rattle.decision.specs.declared.Decision.{Decision}
use Rattle.decision.specs.Settings.{round_limit}
use Rattle.decision_record.specs.Recorded.{recorded, study_of}

pub record Recorded (d : Decision) (kinds : List ℕ) : Type 0 where
  pub line_is : recorded d kinds ≡ line_of (study_of d kinds)
  pub answer_known : (study_of d kinds).answer ≤ max_answer
  pub fits : d.round ≤ round_limit → Recordable (study_of d kinds)
  pub fee_taken : d.round ≤ round_limit → (study_of d kinds).fee ≤ max_fee

abbrev pub RecordedRight : Decision → List ℕ → Type 0
RecordedRight d kinds = (a : RunAnswer) → d.answer ≡ named a → cause_1 kinds ≡ false → Recorded d kinds
