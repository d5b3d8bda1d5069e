-- What printed lines say of the text. Assumes nothing.
use Rattle.std.specs.Prelude.{ℕ, ◌≤◌, ◌≡◌, true, false, List, ◌⊎◌, ℤ, length, take}
use Prim.Native.String.{String}
use Rattle.formula.specs.Formula.{work_size, clauses}
use Rattle.lines.specs.Lines.{Bytes}
use Rattle.named.specs.Names.{In}
use Rattle.text.specs.declared.Form.{Form}
use Rattle.text.specs.Reading.{Read, taken, refused}
use Rattle.text.specs.Form.{has_gates, form_read}
use Rattle.rounds.specs.Run.{Outcome, run, number}
use Rattle.engine.specs.declared.run.Answer.TheVariants.{NoRoomUniversal, NoRoomExistential}
use Rattle.report.specs.Report.{ascii, result_lines, refusal_line}
use Rattle.decision.specs.declared.Decision.{Decision}
use Rattle.decision.specs.Decision.{own_lent}
use Rattle.decision.specs.Settings.{round_limit, one_run, default_settings}
use Rattle.decision.specs.DecisionRight.{Value, causes_of}
use Rattle.decision_lines.specs.Lines.{result_of, study_of, decision_in, decision_of, printed, study_printed}

-- The bytes begin with a text in ASCII.
abbrev pub Begins : List ℕ → String → Type 0
Begins bytes s = take (length (ascii s)) bytes ≡ ascii s

-- The text was refused with number n, one of its reader's, at this line, and that is what is printed.
pub record Refusal (form : Form) (text : Bytes) (bytes : List ℕ) : Type 0 where
  pub n : ℕ
  pub line : ℕ
  pub read_so : form_read form text ≡ refused n line
  pub known : In n (causes_of (has_gates form text))
  pub printed_so : bytes ≡ refusal_line n line

-- The text was taken, and no run had room for a row more.
pub record Undecided (form : Form) (text : Bytes) (d : Decision) : Type 0 where
  pub formula : Read
  pub read_so : form_read form text ≡ taken formula
  pub no_room : (d.answer ≡ NoRoomUniversal) ⊎ (d.answer ≡ NoRoomExistential)

-- Of the bytes printed of a decision of the text: at most so many.
pub record LinesRight (form : Form) (text : Bytes) (d : Decision) (most : ℕ) (bytes : List ℕ) : Type 0 where
  -- One of these beginnings, no two of which agree.
  pub one_form : Begins bytes "c refused " ⊎ Begins bytes "s cnf 1 " ⊎ Begins bytes "s cnf 0 " ⊎ Begins bytes "s cnf -1 "
  pub short : length bytes ≤ most
  -- `c refused N L` exactly for the reader's refusal.
  pub refusal : Begins bytes "c refused " → Refusal form text bytes
  -- `s cnf 1` only if the text's value is true, `s cnf 0` only if it is false, of a gate list the circuit's.
  pub only_true : Begins bytes "s cnf 1 " → Value form text true
  pub only_false : Begins bytes "s cnf 0 " → Value form text false
  -- `s cnf -1` only for want of rows: with 256 rows a side no limit of 1,000 rounds is reached.
  pub undecided : Begins bytes "s cnf -1 " → Undecided form text d

-- 01's run of a formula.
abbrev pub settled : List ℕ → List ℤ → Outcome
settled kinds literals = run (own_lent kinds literals) round_limit

pub record AnswerRight (form : Form) (text area : Bytes) : Type 0 where
  pub lines : LinesRight form text (decision_of form text (one_run round_limit)) 128 (printed form text)
  -- 01's words: what is printed is its run.
  pub by_run : (r : Read) → form_read form text ≡ taken r
      → let o = settled r.kinds r.literals in
      printed form text ≡ result_lines (number o.answer) r.variables r.clauses o.round (length o.A) (length o.S)
  -- 'C being the clauses made' of a gate list.
  pub made : has_gates form text ≡ true → (r : Read) → form_read form text ≡ taken r → r.clauses ≡ length (clauses r.literals)
  -- A text that stands in an area with room for a work area has these lines.
  pub in_area : work_size ≤ length area → result_of (decision_in form text (one_run round_limit) area) ≡ printed form text

pub record StudyAnswerRight (form : Form) (text area : Bytes) : Type 0 where
  pub lines : LinesRight form text (decision_of form text default_settings) 192 (study_printed form text)
  pub in_area : work_size ≤ length area → study_of (decision_in form text default_settings area) ≡ study_printed form text
