-- `trimming::has_names` meets its contract.
-- Assumes nothing.
use mathlib.Core.Path.{ap₂}
use lib.Dec.{ltb}
use Rattle.trimming.proofs.has_names.Goals as goal

pub returns : goal.returns
returns c = ap₂ ltb c.begin.ensures c.end.ensures
