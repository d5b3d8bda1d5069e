-- Assumes nothing.
use Rattle.std.proofs.Common.{rules}
use Rattle.probe.specs.Numbers.{season_number}
use Rattle.probe.proofs.cause_number.Goals as goal

pub returns-then-which-eq0 : goal.returns-then-which-eq0
unfolding season_number
returns-then-which-eq0 c = search rules

pub returns-else-which-eq0 : goal.returns-else-which-eq0
unfolding season_number
returns-else-which-eq0 c = search rules
