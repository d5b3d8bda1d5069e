-- What is printed of a decision. Assumes nothing.
use Rattle.std.specs.Prelude.{ℕ, Bool, true, false, cond, List, replicate}
use Rattle.formula.specs.Formula.{work_size}
use Rattle.lines.specs.Lines.{Bytes}
use Rattle.text.specs.declared.Form.{Form}
use Rattle.text.specs.Form.{form_read}
use Rattle.engine.specs.declared.run.Answer.{Answer}
use Rattle.engine.specs.declared.run.Answer.TheVariants.{False, True, Spent, NoRoomUniversal, NoRoomExistential, Refused}
use Rattle.engine.specs.Outcome.{number_of}
use Rattle.report.specs.Report.{result_lines, refusal_line}
use Rattle.report.specs.Studied.{study_lines}
use Rattle.decision.specs.declared.Decision.{Decision}
use Rattle.decision.specs.Settings.{round_limit, one_run, default_settings, own_areas}
use Rattle.decision.specs.Deciding.{decided, front}

abbrev pub is_refusal : Answer → Bool
is_refusal False = false
is_refusal True = false
is_refusal Spent = false
is_refusal NoRoomUniversal = false
is_refusal NoRoomExistential = false
is_refusal (Refused n) = true

-- 01: 'Line one is `s cnf T V C`, T being 1, 0, or -1 for answers 2 to 4, V and C from the text; line two is `c rounds`, the rounds, `universal`,
-- the count of A, `existential`, the count of S.' 'A refusal prints only `c refused N L`, number and line.'
unfoldable pub result_of : Decision → List ℕ
result_of d =
    cond (is_refusal d.answer) (refusal_line (number_of d.answer) d.line)
    (result_lines (number_of d.answer) d.variables d.clauses d.round d.universal d.existential)

-- A study's lines name the setting that answered between the two.
unfoldable pub study_of : Decision → List ℕ
study_of d =
    cond (is_refusal d.answer) (refusal_line (number_of d.answer) d.line)
    (study_lines (number_of d.answer) d.variables d.clauses d.setting d.round d.universal d.existential)

-- What is decided of a text with 256 rows a side, in an area whose front is the work area.
abbrev pub decision_in : Form → Bytes → List ℕ → Bytes → Decision
decision_in form text settings area = (decided (form_read form text) settings (own_areas (front area))).decision

-- In a work area of zeros: what a text's bytes alone give.
abbrev pub decision_of : Form → Bytes → List ℕ → Decision
decision_of form text settings = (decided (form_read form text) settings (own_areas (replicate work_size 0))).decision

-- 01's program: 'lends no preferences, 256 rows a side and limit 1,000.'
unfoldable pub printed : Form → Bytes → List ℕ
printed form text = result_of (decision_of form text (one_run round_limit))

unfoldable pub study_printed : Form → Bytes → List ℕ
study_printed form text = study_of (decision_of form text default_settings)
