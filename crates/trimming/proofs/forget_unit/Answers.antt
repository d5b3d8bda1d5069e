-- `trimming::forget_unit` meets its contract.
-- Assumes nothing.
use mathlib.Core.Path.{refl}
use Rattle.trimming.proofs.forget_unit.Goals as goal

pub returns : goal.returns
returns c = refl
