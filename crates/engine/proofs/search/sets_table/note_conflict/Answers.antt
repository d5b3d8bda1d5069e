-- `sets_table::note_conflict` meets its contract: what it writes stands behind the sets. Assumes nothing.
use native.Mathlib.Omega.{arith}
use Rattle.engine.proofs.search.HeldSteps.{same_store}
use Rattle.engine.proofs.search.sets_table.note_conflict.Goals as goal

pub bounds-sets-520 : goal.bounds-sets-520
bounds-sets-520 c = omega arith

pub returns : goal.returns
returns c = same_store _ _ _ (omega arith)
