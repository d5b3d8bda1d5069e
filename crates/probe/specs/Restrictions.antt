-- The number that stands for each case of unknowns set.
-- Assumes nothing.
use Rattle.std.specs.Prelude.{ℕ, ◌+◌, Err, Ok, Result}
use Rattle.cause.specs.declared.Cause.{Cause}
use Rattle.cause.specs.Cause.{number}

-- Unknowns set: 0 for set, 100 plus the number of a refusal.
abbrev pub set_number : Result ℕ Cause → ℕ
set_number (Ok used) = 0
set_number (Err cause) = 100 + number cause
