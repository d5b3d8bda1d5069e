-- The rounding of the sheet before (02, C-21), for the theorem on what changed. No fee is charged by it. Assumes nothing.
use Rattle.std.specs.Prelude.{ℕ, ◌+◌, ◌/◌}

-- Thousandths of a cent as cents: 'rounded once to a cent, half a cent upwards'.
abbrev pub half_up : ℕ → ℕ
half_up thousandths = (thousandths + 500) / 1000
