-- A number that is written in decimal is read as that number, where so many digits are allowed. Assumes nothing.
use Rattle.std.specs.Prelude.{ℕ, suc, ◌≤◌, ◌<◌, ◌^◌, ◌≡◌}
use Rattle.lines.specs.Numbers.{number_within}
use Rattle.report.specs.Report.{decimal}

pub record NumeralsRight : Type 0 where
  pub read_again : (k n : ℕ) → suc k ≤ 9 → n < 10 ^ suc k → number_within (suc k) (decimal n) ≡ n
