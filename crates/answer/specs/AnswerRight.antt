-- What printed lines say of the text that was read. Assumes nothing.
use Rattle.std.specs.Prelude.{ℕ, ◌≤◌, ◌≡◌, Bool, true, false, List, ◌⊎◌, length, take}
use Prim.Native.String.{String}
use Rattle.formula.specs.Meaning.{verdict}
use Rattle.rounds.specs.Run.{Answer, no_room_universal, no_room_existential, number}
use Rattle.named.specs.Names.{In}
use Rattle.text.specs.Reading.{Read, Result as Reading, taken, refused, text_read, text_causes}
use Rattle.report.specs.Report.{ascii, result_lines, refusal_line}
use Rattle.answer.specs.Printed.{settled, printed}

-- The bytes begin with a text in ASCII.
abbrev pub Begins : List ℕ → String → Type 0
Begins bytes s = take (length (ascii s)) bytes ≡ ascii s

-- The text was refused with number n, one of these, at this line, and that is what is printed.
pub record Refusal (numbers : List ℕ) (reading : Reading) (bytes : List ℕ) : Type 0 where
  pub n : ℕ
  pub line : ℕ
  pub read_so : reading ≡ refused n line
  pub known : In n numbers
  pub printed_so : bytes ≡ refusal_line n line

-- The text was taken, and the run of its formula is what is printed, with V and C that were read.
pub record Result (reading : Reading) (bytes : List ℕ) : Type 0 where
  pub formula : Read
  pub read_so : reading ≡ taken formula
  pub printed_so : let o = settled formula.kinds formula.literals in
      bytes ≡ result_lines (number o.answer) formula.variables formula.clauses o.round (length o.A) (length o.S)

abbrev pub ended : {reading : Reading} {bytes : List ℕ} → Result reading bytes → Answer
ended r = (settled r.formula.kinds r.formula.literals).answer

-- The bytes printed of a text that is read so: the numbers are those of its causes, and Means says what it means that what was read is true, or false.
pub record LinesRight (numbers : List ℕ) (reading : Reading) (Means : Read → Bool → Type 0) (bytes : List ℕ) : Type 0 where
  -- What is printed has one of these beginnings, no two of which agree, and fits 128 bytes.
  pub one_form : Begins bytes "c refused " ⊎ Begins bytes "s cnf 1 " ⊎ Begins bytes "s cnf 0 " ⊎ Begins bytes "s cnf -1 "
  pub short : length bytes ≤ 128
  -- `c refused N L` exactly for the reader's refusal.
  pub refusal : Begins bytes "c refused " → Refusal numbers reading bytes
  -- `s cnf 1 V C` only if the meaning is true, `s cnf 0 V C` only if it is false.
  pub only_true : Begins bytes "s cnf 1 " → (r : Result reading bytes) × Means r.formula true
  pub only_false : Begins bytes "s cnf 0 " → (r : Result reading bytes) × Means r.formula false
  -- `s cnf -1 V C` only for want of rows: with 256 rows a side the limit of 1,000 rounds is not reached.
  pub undecided : Begins bytes "s cnf -1 " → (r : Result reading bytes) × ((ended r ≡ no_room_universal) ⊎ (ended r ≡ no_room_existential))

-- Of a text of clauses: N is one of 9 to 12 and 14, and the meaning is the formula's verdict.
abbrev pub AnswerRight : List ℕ → Type 0
AnswerRight text = LinesRight text_causes (text_read text) (λ r value. verdict r.kinds r.literals ≡ value) (printed text)
