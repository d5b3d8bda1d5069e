-- Every run worked by hand comes out. Modules are checked in the order of their names, so a wrong definition is first held against these.
-- Assumes nothing.
use Rattle.rounds.specs.Worked.{Worked}
use Rattle.rounds.specs.Cleared.{Cleared}
use Rattle.rounds.specs.Counted.{Counted}
use Rattle.rounds.proofs.Worked.{worked}
use Rattle.rounds.proofs.Cleared.{cleared}
use Rattle.rounds.proofs.Counted.{counted}

pub all_worked : Worked × Cleared × Counted
all_worked = (worked, cleared, counted)
