-- A study's record (02, C-24): 'a line each of three numbers, answer number, rounds, fee in cents, parted by one space and ended by LF'. Assumes nothing.
use Rattle.std.specs.Prelude.{ℕ, List, ◌++◌}
use Rattle.report.specs.Report.{ascii, decimal, pair_line}

unfoldable pub record_line : ℕ → ℕ → ℕ → List ℕ
record_line answer rounds cents = decimal answer ++ pair_line (ascii " ") rounds cents
