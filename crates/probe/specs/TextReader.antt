-- What the exported readers of texts and of gate lists return and report.
-- Assumes nothing.
use Rattle.std.specs.Prelude.{ℕ, ◌+◌, ◌≡◌, List, ℤ, Err, Ok}
use Rattle.cause.specs.Cause.{number as number_of_cause}
use Rattle.text.specs.Reading.{Reading, Result, returned, kinds_after, literals_after, names_after}
use Rattle.probe.specs.declared.text_reader.Told.{Told}

-- A reading: 0 for a text that is taken, 100 plus the number of a refusal.
abbrev pub text_number : Reading → ℕ
text_number (Ok text) = 0
text_number (Err refusal) = 100 + number_of_cause refusal.cause

-- n, the literals used, V and C, or the line; what does not apply is 0.
abbrev pub text_told : Reading → Told
text_told (Ok text) =
    record { unknowns = text.unknowns; entries = text.entries; variables = text.variables; clauses = text.clauses; line = 0 }
text_told (Err refusal) = record { unknowns = 0; entries = 0; variables = 0; clauses = 0; line = refusal.line }

pub record TextRead (result : Result) (number unknowns entries variables clauses line : ℕ) (K : List ℕ) (L : List ℤ) (N K' : List ℕ) (L' : List ℤ) (N' : List ℕ) : Type 0 where
  pub numbered : number ≡ text_number (returned result)
  pub unknowns_told : unknowns ≡ (text_told (returned result)).unknowns
  pub entries_told : entries ≡ (text_told (returned result)).entries
  pub variables_told : variables ≡ (text_told (returned result)).variables
  pub clauses_told : clauses ≡ (text_told (returned result)).clauses
  pub line_told : line ≡ (text_told (returned result)).line
  pub writes_kinds : K' ≡ kinds_after result K
  pub writes_literals : L' ≡ literals_after result L
  pub writes_names : N' ≡ names_after result N
