-- The reply over a text, a witness file and moves: the causes of the text, those of the file, then the reply; and the line that is printed of it.
-- Assumes nothing.
use Rattle.std.specs.Prelude.{ℕ, Bool, true, false, cond, List, eqb, ℤ, Result as Outcome, Ok, Err}
use Rattle.cause.specs.declared.Cause.{Cause}
use Rattle.cause.specs.Cause.{number}
use Rattle.rows.specs.Table.{room}
use Rattle.text.specs.Reading.{Result, taken, refused, read_as}
use Rattle.witness.specs.declared.Record.{Record}
use Rattle.witness.specs.File.{stands, file_cause, record_of}
use Rattle.report.specs.Report.{ascii, refusal_line}
use Rattle.judgement.specs.Finding.{claimed_rows}
use Rattle.reply.specs.declared.Next.{Next}
use Rattle.reply.specs.Next.{next}
use Rattle.reply_answer.specs.declared.Answer.{Answer}
use Rattle.reply_answer.specs.declared.Answer.TheVariants.{Replied, OthersTurn, Done, NotBorneOut, Refused}

-- A cause of the rows or the moves has line 0.
abbrev pub of_next : Outcome Next Cause → Answer
of_next (Ok (Next.Value v)) = Replied v
of_next (Ok Next.OthersTurn) = OthersTurn
of_next (Ok Next.Done) = Done
of_next (Ok Next.NotBorneOut) = NotBorneOut
of_next (Err cause) = Refused (number cause) 0

-- The reply from all rows of the claim's side in the file.
unfoldable pub on_claim : List ℕ → List ℤ → List ℕ → List ℕ → ℕ → Answer
on_claim kinds literals f moves claim = of_next (next kinds literals claim (claimed_rows f claim) (room (claimed_rows f claim)) moves)

-- A file that claims nothing is refused with 7.
unfoldable pub on_record : List ℕ → List ℤ → List ℕ → List ℕ → Record → Answer
on_record kinds literals f moves r = cond (stands 0 r.map) (on_claim kinds literals f moves r.claim) (Refused 7 0)

unfoldable pub on_formula : List ℕ → List ℤ → List ℕ → List ℕ → Answer
on_formula kinds literals f moves = cond (eqb (file_cause f) 0) (on_record kinds literals f moves (record_of f)) (Refused (file_cause f) 0)

-- The text's causes come first, with their line.
abbrev pub on_text : Result → List ℕ → List ℕ → Answer
on_text (refused number line) f moves = Refused number line
on_text (taken s) f moves = on_formula s.kinds s.literals f moves

-- The line of a value, and of each answer.
abbrev pub value_line : Bool → List ℕ
value_line true = ascii "1\n"
value_line false = ascii "0\n"

abbrev pub line_of : Answer → List ℕ
line_of (Replied v) = value_line v
line_of OthersTurn = ascii "others\n"
line_of Done = ascii "done\n"
line_of NotBorneOut = ascii "not borne out\n"
line_of (Refused number line) = refusal_line number line

-- What is printed.
abbrev pub printed : List ℕ → List ℕ → List ℕ → List ℕ
printed text f moves = line_of (on_text (read_as false text) f moves)
