-- `propagation::note` meets its contract. Assumes nothing.
use Prim.Native.Nat.{◌+◌}
use native.Mathlib.Omega.{arith}
use lib.ListN.{length-set}
use Rattle.formula.specs.Formula.{max_unknowns}
use Rattle.search_sets.proofs.MaskLaws.{store_behind, kept_trans, kept_grown}
use Rattle.engine.proofs.search.CallLaws.{grows}
use Rattle.engine.proofs.search.propagation.note.Goals as goal

pub bounds-sets-at-3 : goal.bounds-sets-at-3
bounds-sets-at-3 c = simp length-set (omega arith)

pub returns : goal.returns
returns c = kept_trans (kept_grown (omega arith) (grows _ c.requires.0 (max_unknowns + 1) c.args.k (omega arith)
    (omega arith) c.add.ensures)) (kept_trans (store_behind _ _ _ (omega arith)) (store_behind _ _ _ (omega arith)))
