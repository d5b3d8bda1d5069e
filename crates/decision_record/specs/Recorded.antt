-- The record of a decision. Assumes nothing.
use Rattle.std.specs.Prelude.{ℕ, List, [], Result as Charge, Err, Ok}
use Rattle.cause.specs.declared.Cause.{Cause}
use Rattle.cause.specs.Cause.{number}
use Rattle.lines.specs.Lines.{Bytes}
use Rattle.text.specs.declared.Form.{Form}
use Rattle.text.specs.Reading.{Result, taken, refused}
use Rattle.text.specs.Form.{form_read}
use Rattle.report.specs.Report.{refusal_line}
use Rattle.report.specs.Record.{record_line}
use Rattle.engine.specs.declared.run.Answer.{Answer}
use Rattle.engine.specs.declared.run.Answer.TheVariants.{False, True, Spent, NoRoomUniversal, NoRoomExistential, Refused}
use Rattle.engine.specs.Outcome.{number_of}
use Rattle.fee.specs.Fee.{charged, fee}
use Rattle.season.specs.declared.Study.{Study}
use Rattle.decision.specs.declared.Decision.{Decision}
use Rattle.decision.specs.Settings.{own_areas}
use Rattle.decision.specs.Deciding.{decided, front}

-- The line of an answer, the rounds and what is charged for them. Kinds that no formula has are refused by the fee.
abbrev pub charge_line : ℕ → ℕ → Charge ℕ Cause → Bytes
charge_line answer rounds (Ok cents) = record_line answer rounds cents
charge_line answer rounds (Err cause) = refusal_line (number cause) 0

-- 'Spent and no-room studies pay for the rounds reached; a refused one pays nothing.'
abbrev pub line_for : Answer → ℕ → ℕ → List ℕ → Bytes
line_for False line rounds kinds = charge_line 0 rounds (charged kinds rounds)
line_for True line rounds kinds = charge_line 1 rounds (charged kinds rounds)
line_for Spent line rounds kinds = charge_line 2 rounds (charged kinds rounds)
line_for NoRoomUniversal line rounds kinds = charge_line 3 rounds (charged kinds rounds)
line_for NoRoomExistential line rounds kinds = charge_line 4 rounds (charged kinds rounds)
line_for (Refused cause) line rounds kinds = refusal_line cause line

unfoldable pub recorded : Decision → List ℕ → Bytes
recorded d kinds = line_for d.answer d.line d.round kinds

-- The study that it is the record of: the answer's number, the round of the run that answered, and C-21's fee of that round.
abbrev pub study_of : Decision → List ℕ → Study
study_of d kinds = record { answer = number_of d.answer; rounds = d.round; fee = fee kinds d.round }

-- The kinds of the formula that was read; none of a text that is refused.
abbrev pub kinds_of : Result → List ℕ
kinds_of (taken r) = r.kinds
kinds_of (refused number line) = []

-- What is decided of a text under these settings, with 256 rows a side, in an area whose front is the work area; and its record.
abbrev pub decision_in : Form → Bytes → List ℕ → Bytes → Decision
decision_in form text settings area = (decided (form_read form text) settings (own_areas (front area))).decision

abbrev pub record_in : Form → Bytes → List ℕ → Bytes → Bytes
record_in form text settings area = recorded (decision_in form text settings area) (kinds_of (form_read form text))
