-- `run::unopened` meets its contract. Assumes nothing.
use mathlib.Core.Path.{refl}
use Rattle.engine.proofs.run.unopened.Goals as goal

pub returns : goal.returns
returns c = refl
