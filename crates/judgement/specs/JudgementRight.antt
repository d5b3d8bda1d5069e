-- What the printed line says of the formula that was read, or of the circuit of a gate list, and of the file. Assumes nothing.
use Rattle.std.specs.Prelude.{ℕ, ◌≤◌, ◌≡◌, Bool, true, false, List, ◌⊎◌, length}
use Prim.Native.String.{String}
use Rattle.formula.specs.Meaning.{verdict, bit}
use Rattle.text.specs.Reading.{Result, taken, refused, text_read}
use Rattle.text.specs.declared.Form.{Form}
use Rattle.text.specs.Form.{has_gates, form_read}
use Rattle.text.specs.GatesRight.{CircuitIs}
use Rattle.witness.specs.File.{stands, file_cause, record_of}
use Rattle.report.specs.Report.{ascii, refusal_line}
use Rattle.judgement.specs.declared.Finding.TheVariants.{Accepted, Refused}
use Rattle.judgement.specs.Finding.{finding_of, printed_of}
use Rattle.judgement.specs.Numbers.{numbers, found_numbers}

-- The text is taken, and its formula has this value.
abbrev pub Has : Bool → Result → Type 0
Has value (taken s) = verdict s.kinds s.literals ≡ value
Has value (refused number line) = ⊥

-- The text is taken, and its formula's value has this number, 1 for true and 0 for false.
abbrev pub IsVerdict : ℕ → Result → Type 0
IsVerdict claim (taken s) = bit (verdict s.kinds s.literals) ≡ claim
IsVerdict claim (refused number line) = ⊥

-- What a finding says, with any work area: its numbers; an accepted claim is the file's and the verdict; a cause has a number up to `most`.
pub record FoundRight (most : ℕ) (reading : Result) (f work : List ℕ) : Type 0 where
  pub numbers_so : numbers (finding_of reading f work) ≡ found_numbers reading f work
  pub its_own : (claim : ℕ) → finding_of reading f work ≡ Accepted claim → claim ≡ (record_of f).claim
  pub only_verdict : (claim : ℕ) → finding_of reading f work ≡ Accepted claim → IsVerdict claim reading
  pub few : (number line : ℕ) → finding_of reading f work ≡ Refused number line → number ≤ most

-- The numbers of a text's and a file's causes go up to 18.
abbrev pub FindingRight : List ℕ → List ℕ → List ℕ → Type 0
FindingRight text f work = FoundRight 18 (text_read text) f work

-- What is printed is this line.
abbrev pub Prints : Result → List ℕ → String → Type 0
Prints reading f line = printed_of reading f ≡ ascii line

-- A file that is taken, with n and clause count, one of which is not the text's.
abbrev pub Differs : List ℕ → Result → Type 0
Differs f (taken s) = ((record_of f).unknowns ≡ length s.kinds) × ((record_of f).clauses ≡ s.clauses) → ⊥
Differs f (refused number line) = ⊥

pub record Other (reading : Result) (f : List ℕ) : Type 0 where
  pub file_taken : file_cause f ≡ 0
  pub has_sizes : stands 1 (record_of f).map ≡ true
  pub differs : Differs f reading

-- A refusal is the text's, or the file's with line 0, and that is what is printed.
pub record Refusal (reading : Result) (f : List ℕ) : Type 0 where
  pub number : ℕ
  pub line : ℕ
  pub printed_so : printed_of reading f ≡ refusal_line number line
  pub whose : (reading ≡ refused number line) ⊎ (line ≡ 0)

-- The line of a text that is read so.
pub record LineRight (reading : Result) (f : List ℕ) : Type 0 where
  -- What is printed is one of these lines, no two of which agree, and fits 64 bytes.
  pub one_form :
      Prints reading f "accepted 1\n" ⊎ Prints reading f "accepted 0\n" ⊎ Prints reading f "not borne out\n" ⊎ Prints reading f "not of this formula\n" ⊎ Refusal reading f
  pub short : length (printed_of reading f) ≤ 64
  -- `accepted 1` only if the text's formula is true, `accepted 0` only if it is false.
  pub only_true : Prints reading f "accepted 1\n" → Has true reading
  pub only_false : Prints reading f "accepted 0\n" → Has false reading
  -- `not of this formula` only for a file whose n or clause count is not the text's.
  pub other : Prints reading f "not of this formula\n" → Other reading f

-- Of a text of that form: the line, and what is found of the formula that is read; its causes go up to 20.
pub record JudgementRight (form : Form) (text f : List ℕ) : Type 0 where
  pub line : LineRight (form_read form text) f
  pub found : (work : List ℕ) → FoundRight 20 (form_read form text) f work
  -- Of a gate list `accepted 1` only if the circuit that its own lines draw is true under the prefix, `accepted 0` only if it is false.
  pub only_true : has_gates form text ≡ true → Prints (form_read form text) f "accepted 1\n" → CircuitIs text true
  pub only_false : has_gates form text ≡ true → Prints (form_read form text) f "accepted 0\n" → CircuitIs text false
