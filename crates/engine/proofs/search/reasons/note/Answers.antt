-- `reasons::note` meets its contract: what it writes stands behind the sets. Assumes nothing.
use lib.ListN.{length-set}
use Rattle.engine.proofs.search.HeldSteps.{same_store, same_trans}
use native.Mathlib.Omega.{arith}
use Rattle.engine.proofs.search.reasons.note.Goals as goal

pub bounds-sets-518 : goal.bounds-sets-518
bounds-sets-518 c = omega arith

pub bounds-sets-518-2 : goal.bounds-sets-518-2
bounds-sets-518-2 c = omega arith

pub bounds-sets-516 : goal.bounds-sets-516
bounds-sets-516 c = simp length-set (omega arith)

pub bounds-sets-517 : goal.bounds-sets-517
bounds-sets-517 c = simp length-set (omega arith)

pub bounds-sets-519 : goal.bounds-sets-519
bounds-sets-519 c = simp length-set (omega arith)

pub bounds-sets-519-2 : goal.bounds-sets-519-2
bounds-sets-519-2 c = simp length-set (omega arith)

pub shape_of-sets : goal.shape_of-sets
shape_of-sets c = simp length-set (omega arith)

pub returns : goal.returns
returns c = same_trans (same_store _ _ _ (omega arith)) (same_trans (same_store _ _ _ (omega arith)) (same_store _ _ _ (omega arith)))
