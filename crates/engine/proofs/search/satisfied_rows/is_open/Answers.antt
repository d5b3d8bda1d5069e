-- `is_open` meets its contract. Assumes nothing.
use mathlib.Core.Path.{refl}
use Rattle.engine.specs.Private.TermTables.{bit}
use Rattle.engine.proofs.search.satisfied_rows.is_open.Goals as goal

pub returns : goal.returns
unfolding bit
returns c = refl
