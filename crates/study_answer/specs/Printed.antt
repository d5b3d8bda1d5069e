-- What a study prints for the bytes of a text or of a gate list: 01's first line with the verdict, the setting that gave it, 01's second line of that
-- setting's run; or 01's refusal line. Assumes nothing.
use Rattle.std.specs.Prelude.{ℕ, suc, Bool, List, ℤ, replicate}
use Rattle.formula.specs.Formula.{work_size}
use Rattle.engine.specs.Outcome.{number_of}
use Rattle.text.specs.Reading.{Result, taken, refused, read_as}
use Rattle.report.specs.Report.{refusal_line}
use Rattle.report.specs.Studied.{study_lines}
use Rattle.study.specs.declared.Studied.{Studied}
use Rattle.study_answer.specs.House.{house_study}

-- Settings are numbered from 1 where people read them.
abbrev pub lines_of : ℕ → ℕ → Studied → List ℕ
lines_of variables clauses r =
    study_lines (number_of r.outcome.answer) variables clauses (suc r.setting) r.outcome.round r.outcome.universal r.outcome.existential

unfoldable pub result_of : List ℕ → List ℤ → ℕ → ℕ → List ℕ
result_of kinds literals variables clauses = lines_of variables clauses (house_study kinds literals (replicate work_size 0)).result

-- 'A refusal prints only `c refused N L`, number and line.'
abbrev pub shown : Result → List ℕ
shown (refused number line) = refusal_line number line
shown (taken r) = result_of r.kinds r.literals r.variables r.clauses

-- `gates` says that the text is a gate list.
unfoldable pub printed : Bool → List ℕ → List ℕ
printed gates text = shown (read_as gates text)
