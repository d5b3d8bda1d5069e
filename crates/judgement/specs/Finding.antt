-- The judge over a text, or a gate list, and a witness file (02's C-18): the causes of the text, those of the file, whether the file is about this
-- formula, then the judgement of 01; and the line that is printed of it.
-- Assumes nothing.
use Rattle.std.specs.Prelude.{ℕ, ◌≡◌, Bool, cond, not, ◌&&◌, List, eqb, ℤ, length, replicate, Result as Outcome, Ok, Err}
use Rattle.cause.specs.declared.Cause.{Cause}
use Rattle.cause.specs.Cause.{number}
use Rattle.formula.specs.Formula.{work_size}
use Rattle.rows.specs.Table.{room}
use Rattle.judge.specs.declared.Judgement.{Judgement}
use Rattle.judge.specs.Judge.{outcome, work_after}
use Rattle.text.specs.Reading.{Result, taken, refused, text_read}
use Rattle.text.specs.declared.Form.{Form}
use Rattle.text.specs.Form.{form_read}
use Rattle.witness.specs.declared.Record.{Record}
use Rattle.witness.specs.File.{stands, file_cause, record_of, rows_back}
use Rattle.report.specs.Report.{ascii, refusal_line}
use Rattle.judgement.specs.declared.Finding.{Finding}
use Rattle.judgement.specs.declared.Finding.TheVariants.{NotBorneOut, Accepted, OtherFormula, Refused}

-- What is found, and what the work area holds afterwards.
pub record Found : Type 0 where
  pub finding : Finding
  pub work : List ℕ

-- Where nothing is judged the work area stays as it was.
abbrev pub unjudged : Finding → List ℕ → Found
unjudged finding work = record { finding = finding; work = work }

-- The judgement of a claim; a cause of the judge is one of the file's, and has line 0.
abbrev pub judged : ℕ → Outcome Judgement Cause → Finding
judged claim (Ok Judgement.NotBorneOut) = NotBorneOut
judged claim (Ok Judgement.Accepted) = Accepted claim
judged claim (Err cause) = Refused (number cause) 0

-- 'Claim 0 takes universal rows, claim 1 existential rows': all rows of that side in the file.
abbrev pub claimed_rows : List ℕ → ℕ → List ℕ
claimed_rows f claim = rows_back f (eqb claim 0)

unfoldable pub on_claim : List ℕ → List ℤ → List ℕ → ℕ → List ℕ → Found
on_claim kinds literals f claim work =
    let rows = claimed_rows f claim in
    record {
      finding = judged claim (outcome kinds literals claim rows (room rows) work);
      work = work_after kinds literals claim rows (room rows) work;
    }

-- The record has n and clause count, and they are not the formula's.
unfoldable pub of_another : Record → ℕ → ℕ → Bool
of_another r unknowns clauses = stands 1 r.map && not (eqb r.unknowns unknowns && eqb r.clauses clauses)

-- A claim about another formula is never judged; a file that claims nothing is refused with 7.
unfoldable pub on_record : List ℕ → List ℤ → ℕ → List ℕ → Record → List ℕ → Found
on_record kinds literals clauses f r work =
    let claimed = on_claim kinds literals f r.claim work in
    cond (of_another r (length kinds) clauses) (unjudged OtherFormula work) (cond (stands 0 r.map) claimed (unjudged (Refused 7 0) work))

unfoldable pub on_formula : List ℕ → List ℤ → ℕ → List ℕ → List ℕ → Found
on_formula kinds literals clauses f work =
    let read = on_record kinds literals clauses f (record_of f) work in
    cond (eqb (file_cause f) 0) read (unjudged (Refused (file_cause f) 0) work)

-- The text's causes come first, with their line.
abbrev pub on_text : Result → List ℕ → List ℕ → Found
on_text (refused number line) f work = unjudged (Refused number line) work
on_text (taken s) f work = on_formula s.kinds s.literals s.clauses f work

-- What is found of a text that is read so and a file, and what the work area holds afterwards.
unfoldable pub finding_of : Result → List ℕ → List ℕ → Finding
finding_of reading f work = (on_text reading f work).finding

unfoldable pub left_of : Result → List ℕ → List ℕ → List ℕ
left_of reading f work = (on_text reading f work).work

-- Of a text.
abbrev pub finding : List ℕ → List ℕ → List ℕ → Finding
finding text f work = finding_of (text_read text) f work

abbrev pub left : List ℕ → List ℕ → List ℕ → List ℕ
left text f work = left_of (text_read text) f work

-- A result and a work area that are those of a definition.
pub record Finds (definition : List ℕ → Found) (work : List ℕ) (result : Finding) (work_then : List ℕ) : Type 0 where
  pub found : result ≡ (definition work).finding
  pub area : work_then ≡ (definition work).work

-- The line of an accepted claim, and of each finding.
unfoldable pub accepted_line : ℕ → List ℕ
accepted_line claim = cond (eqb claim 0) (ascii "accepted 0\n") (ascii "accepted 1\n")

abbrev pub line_of : Finding → List ℕ
line_of NotBorneOut = ascii "not borne out\n"
line_of (Accepted claim) = accepted_line claim
line_of OtherFormula = ascii "not of this formula\n"
line_of (Refused number line) = refusal_line number line

-- What is printed of a text that is read so, with a work area of zeros; and of a text of that form.
unfoldable pub printed_of : Result → List ℕ → List ℕ
printed_of reading f = line_of (finding_of reading f (replicate work_size 0))

abbrev pub printed : Form → List ℕ → List ℕ → List ℕ
printed form text f = printed_of (form_read form text) f
