-- What the exported functions on witness files return and report.
-- Assumes nothing.
use Rattle.std.specs.Prelude.{ℕ, ◌+◌, ◌≡◌, Err, Ok, Result}
use Rattle.cause.specs.declared.Cause.{Cause}
use Rattle.cause.specs.Cause.{number}
use Rattle.witness.specs.declared.Record.{Record}
use Rattle.witness.specs.File.{made}

-- A reading: 0 for a file that is taken, 100 plus the number of a refusal; and its record, zeros on a refusal.
abbrev pub reading_number : Result Record Cause → ℕ
reading_number (Ok r) = 0
reading_number (Err cause) = 100 + number cause

abbrev pub record_told : Result Record Cause → Record
record_told (Ok r) = r
record_told (Err cause) = made 0 0 0 0 0 0 0

pub record RecordTold (answer : Result Record Cause) (map claim unknowns clauses universal existential rounds : ℕ) : Type 0 where
  pub told : made map claim unknowns clauses universal existential rounds ≡ record_told answer

-- A write: 0 for a file that is written, 100 plus the number of a refusal; and the file's length, 0 on a refusal.
abbrev pub writing_number : Result ℕ Cause → ℕ
writing_number (Ok n) = 0
writing_number (Err cause) = 100 + number cause

abbrev pub length_told : Result ℕ Cause → ℕ
length_told (Ok n) = n
length_told (Err cause) = 0
