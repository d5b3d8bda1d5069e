-- The number that stands for each case of a forecast.
-- Assumes nothing.
use Rattle.std.specs.Prelude.{ℕ, ◌+◌, Err, Ok, Result}
use Rattle.cause.specs.declared.Cause.{Cause}
use Rattle.cause.specs.Cause.{number}
use Rattle.forecast.specs.declared.Outlook.{Outlook}
use Rattle.probe.specs.Numbers.{value_number}

-- A forecast: 1 where the rows fit, 0 where they may not, 100 plus the number of a refusal.
abbrev pub outlook_number : Result Outlook Cause → ℕ
outlook_number (Ok o) = value_number o.fits
outlook_number (Err cause) = 100 + number cause
