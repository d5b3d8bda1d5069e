-- The file written for a text, or a gate list, is accepted by the judge on it; where none is written, 01's lines are said. Assumes nothing.
use Rattle.std.specs.Prelude.{ℕ, ◌≤◌, ◌≡◌, List, [], ◌⊎◌, length}
use Prim.Native.String.{String}
use Rattle.judgement.specs.JudgementRight.{Prints}
use Rattle.text.specs.Reading.{Result, text_read, gates_read}
use Rattle.answer.specs.Printed.{printed, gates_printed}
use Rattle.answer.specs.AnswerRight.{Begins}
use Rattle.certificate.specs.Certificate.{written_of, said_of}

-- The program's bytes have this beginning, and the judge, given the text and the file, prints this line.
pub record Settled (reading : Result) (bytes : List ℕ) (answer judgement : String) : Type 0 where
  pub answered : Begins bytes answer
  pub accepted : Prints reading (written_of reading) judgement
  pub silent : said_of reading ≡ []

-- Undecided or refused: nothing is written, and what the program prints is said.
pub record Unsettled (reading : Result) (bytes : List ℕ) : Type 0 where
  pub answered : Begins bytes "c refused " ⊎ Begins bytes "s cnf -1 "
  pub nothing : written_of reading ≡ []
  pub same_lines : said_of reading ≡ bytes

-- Of a text that is read so, and of which the program prints these bytes.
pub record FileRight (reading : Result) (bytes : List ℕ) : Type 0 where
  pub one_form : Settled reading bytes "s cnf 1 " "accepted 1\n" ⊎ Settled reading bytes "s cnf 0 " "accepted 0\n" ⊎ Unsettled reading bytes
  -- A file fits 4,106 bytes, the lines fit 128.
  pub file_short : length (written_of reading) ≤ 4106
  pub lines_short : length (said_of reading) ≤ 128

abbrev pub CertificateRight : List ℕ → Type 0
CertificateRight text = FileRight (text_read text) (printed text)

-- The judge on the gate list accepts the file of a gate list.
abbrev pub GatesCertificateRight : List ℕ → Type 0
GatesCertificateRight text = FileRight (gates_read text) (gates_printed text)
