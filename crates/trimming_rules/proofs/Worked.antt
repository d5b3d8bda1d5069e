-- The trimmings worked by hand come out as worked.
-- Assumes nothing.
use mathlib.Core.Path.{refl}
use Rattle.trimming_rules.specs.Trimming.{step, trimmed}
use Rattle.trimming_rules.specs.Worked.{Worked}

pub worked : Worked
unfolding step trimmed
worked = refl
