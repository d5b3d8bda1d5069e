-- The witness file of a text or a gate list (02's C-18): it is decided as the program decides it (01), and 'the side that settled it' is written: its
-- claim, n and clause count, its rows, rounds. Undecided or refused, no file is written, and 01's lines are said.
-- Assumes nothing.
use Rattle.std.specs.Prelude.{ℕ, ◌≡◌, cond, List, [], eqb, ℤ, length, replicate}
use Rattle.formula.specs.Formula.{work_size}
use Rattle.rows.specs.Table.{table_of}
use Rattle.rounds.specs.Run.{rows, Answer, is_false, is_true, spent, no_room_universal, no_room_existential, number, Outcome}
use Rattle.text.specs.Reading.{Result, taken, refused, text_read, gates_read}
use Rattle.report.specs.Report.{result_lines, refusal_line, put, put_count}
use Rattle.witness.specs.declared.Record.{Record}
use Rattle.witness.specs.File.{made, file}
use Rattle.answer.specs.Printed.{settled}
use Rattle.certificate.specs.declared.Counts.{Counts}

-- The bytes of the file, and those of the lines.
pub record Output : Type 0 where
  pub file : List ℕ
  pub lines : List ℕ

abbrev pub only_file : List ℕ → Output
only_file bytes = record { file = bytes; lines = [] }

abbrev pub only_lines : List ℕ → Output
only_lines bytes = record { file = []; lines = bytes }

-- A true formula is settled by existential rows: bits 0, 1, 3 and 4 stand. A false one by universal rows: bits 0, 1, 2 and 4.
abbrev pub true_record : ℕ → ℕ → Outcome → Record
true_record unknowns clauses o = made 27 1 unknowns clauses 0 (length o.S) o.round

abbrev pub false_record : ℕ → ℕ → Outcome → Record
false_record unknowns clauses o = made 23 0 unknowns clauses (length o.A) 0 o.round

-- 01's lines of an outcome.
abbrev pub lines_of : ℕ → ℕ → Outcome → List ℕ
lines_of variables clauses o = result_lines (number o.answer) variables clauses o.round (length o.A) (length o.S)

abbrev pub by_answer : Answer → ℕ → ℕ → ℕ → Outcome → Output
by_answer is_true unknowns variables clauses o = only_file (file (true_record unknowns clauses o) [] (table_of (rows o.S)))
by_answer is_false unknowns variables clauses o = only_file (file (false_record unknowns clauses o) (table_of (rows o.A)) [])
by_answer spent unknowns variables clauses o = only_lines (lines_of variables clauses o)
by_answer no_room_universal unknowns variables clauses o = only_lines (lines_of variables clauses o)
by_answer no_room_existential unknowns variables clauses o = only_lines (lines_of variables clauses o)

unfoldable pub on_outcome : ℕ → ℕ → ℕ → Outcome → Output
on_outcome unknowns variables clauses o = by_answer o.answer unknowns variables clauses o

unfoldable pub on_formula : List ℕ → List ℤ → ℕ → ℕ → Output
on_formula kinds literals variables clauses = on_outcome (length kinds) variables clauses (settled kinds literals)

-- The text's causes come first; then 5, 'work area not 65,536'.
abbrev pub on_text : Result → List ℕ → Output
on_text (refused number line) work = only_lines (refusal_line number line)
on_text (taken s) work =
    let decided = on_formula s.kinds s.literals s.variables s.clauses in
    cond (eqb (length work) work_size) decided (only_lines (refusal_line 5 0))

-- The work area is 'zero after an answer', as found after a refusal.
abbrev pub work_by : Result → List ℕ → List ℕ
work_by (refused number line) work = work
work_by (taken s) work =
    let cleared : List ℕ = replicate work_size 0 in
    cond (eqb (length work) work_size) cleared work

-- What a text, or a gate list, gives with a work area lent, and what that holds afterwards.
abbrev pub output : List ℕ → List ℕ → Output
output text work = on_text (text_read text) work

abbrev pub gates_output : List ℕ → List ℕ → Output
gates_output text work = on_text (gates_read text) work

abbrev pub left : List ℕ → List ℕ → List ℕ
left text work = work_by (text_read text) work

abbrev pub gates_left : List ℕ → List ℕ → List ℕ
gates_left text work = work_by (gates_read text) work

-- Both put into lent buffers.
pub record Delivered (o : Output) (file lines : List ℕ) (counts : Counts) (file_then lines_then : List ℕ) : Type 0 where
  pub file_counted : counts.file ≡ put_count o.file file
  pub file_written : file_then ≡ put o.file file
  pub lines_counted : counts.lines ≡ put_count o.lines lines
  pub lines_written : lines_then ≡ put o.lines lines

-- The file and the lines of a text that is read so, with a work area of 01's length.
unfoldable pub written_of : Result → List ℕ
written_of reading = (on_text reading (replicate work_size 0)).file

unfoldable pub said_of : Result → List ℕ
said_of reading = (on_text reading (replicate work_size 0)).lines
