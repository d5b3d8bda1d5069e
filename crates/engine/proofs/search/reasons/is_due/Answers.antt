-- `reasons::is_due` meets its contract: what it writes stands behind the sets. Assumes nothing.
use lib.ListN.{length-set}
use Rattle.engine.proofs.search.HeldSteps.{same_store}
use native.Mathlib.Omega.{arith}
use Rattle.engine.proofs.search.reasons.is_due.Goals as goal

pub bounds-sets-516 : goal.bounds-sets-516
bounds-sets-516 c = omega arith

pub bounds-sets-516-2 : goal.bounds-sets-516-2
bounds-sets-516-2 c = omega arith

pub bounds-sets-517 : goal.bounds-sets-517
bounds-sets-517 c = simp length-set (omega arith)

pub returns : goal.returns
returns c = same_store _ _ _ (omega arith)
