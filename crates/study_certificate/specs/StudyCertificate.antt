-- The witness file (02's C-18) of a study: its claim, n and clause count, the rows that the run which answered has left on the side that settled it, rounds.
-- Undecided, no file is written, and the study's lines are said; refused, 01's refusal line.
-- Assumes nothing.
use Rattle.std.specs.Prelude.{ℕ, Bool, List, ℤ, length, replicate}
use Rattle.formula.specs.Formula.{work_size}
use Rattle.engine.specs.declared.run.Answer.{Answer}
use Rattle.engine.specs.declared.run.Answer.TheVariants.{False, True, Spent, NoRoomUniversal, NoRoomExistential, Refused}
use Rattle.engine.specs.declared.run.Outcome.{Outcome}
use Rattle.text.specs.Reading.{Result, taken, refused, read_as}
use Rattle.report.specs.Report.{refusal_line}
use Rattle.witness.specs.declared.Record.{Record}
use Rattle.witness.specs.File.{made, file}
use Rattle.certificate.specs.Certificate.{Output, only_file, only_lines}
use Rattle.study.specs.declared.Studied.{Studied}
use Rattle.study.specs.Study.{Ending}
use Rattle.study_answer.specs.Printed.{lines_of}
use Rattle.study_certificate.specs.WitnessList.{witness_study}

-- A true formula is settled by existential rows: bits 0, 1, 3 and 4 stand. A false one by universal rows: bits 0, 1, 2 and 4.
abbrev pub true_record : ℕ → ℕ → Outcome → Record
true_record unknowns clauses o = made 27 1 unknowns clauses 0 o.existential o.round

abbrev pub false_record : ℕ → ℕ → Outcome → Record
false_record unknowns clauses o = made 23 0 unknowns clauses o.universal 0 o.round

-- By the answer of a study that has left these universal and existential rows.
abbrev pub by_answer : Answer → ℕ → ℕ → ℕ → Studied → List ℕ → List ℕ → Output
by_answer True unknowns variables clauses r A S = only_file (file (true_record unknowns clauses r.outcome) A S)
by_answer False unknowns variables clauses r A S = only_file (file (false_record unknowns clauses r.outcome) A S)
by_answer Spent unknowns variables clauses r A S = only_lines (lines_of variables clauses r)
by_answer NoRoomUniversal unknowns variables clauses r A S = only_lines (lines_of variables clauses r)
by_answer NoRoomExistential unknowns variables clauses r A S = only_lines (lines_of variables clauses r)
by_answer (Refused cause) unknowns variables clauses r A S = only_lines (refusal_line cause 0)

unfoldable pub on_ending : ℕ → ℕ → ℕ → Ending → Output
on_ending unknowns variables clauses e =
    by_answer e.result.outcome.answer unknowns variables clauses e.result e.areas_left.universal_rows e.areas_left.existential_rows

unfoldable pub on_formula : List ℕ → List ℤ → ℕ → ℕ → List ℕ → Output
on_formula kinds literals variables clauses work = on_ending (length kinds) variables clauses (witness_study kinds literals work)

-- The text's causes come first; then those of the study, of which 5, 'work area not 65,536', is left.
abbrev pub on_reading : Result → List ℕ → Output
on_reading (refused number line) work = only_lines (refusal_line number line)
on_reading (taken s) work = on_formula s.kinds s.literals s.variables s.clauses work

-- The work area is left as found after a refusal, else as the study leaves it.
abbrev pub work_by : Result → List ℕ → List ℕ
work_by (refused number line) work = work
work_by (taken s) work = (witness_study s.kinds s.literals work).areas_left.work

-- What a text gives with a work area lent, and what that holds afterwards; `gates` says that the text is a gate list.
unfoldable pub output : Bool → List ℕ → List ℕ → Output
output gates text work = on_reading (read_as gates text) work

unfoldable pub left : Bool → List ℕ → List ℕ → List ℕ
left gates text work = work_by (read_as gates text) work

-- The file and the lines of a text, with a work area of 01's length.
unfoldable pub written : Bool → List ℕ → List ℕ
written gates text = (output gates text (replicate work_size 0)).file

unfoldable pub said : Bool → List ℕ → List ℕ
said gates text = (output gates text (replicate work_size 0)).lines
