-- `propagation::propagate_occurrences` meets its contract. The invariant: no look has failed. Assumes nothing.
use mathlib.Core.Path.{refl}
use native.Mathlib.Omega.{arith}
use Rattle.engine.proofs.search.PropagationLaws.{going_then, going_at, going_ends, lent_starts}
use Rattle.engine.proofs.search.propagation.propagate_occurrences.Goals as goal
use Rattle.engine.proofs.search.propagation.propagate_occurrences.Goals.{else-level, then-level+then-propagate_list}

pub returns-else-propagate_list : goal.returns-else-propagate_list
returns-else-propagate_list c =
    let look = c.propagate_list in
    going_ends c.loop-i.invariant look.new.work look.new.sets look.result
    (λ listed. look.ensures
    (c.list_of-list.ensures c.args.codes.now (lent_starts c.requires.lent listed c.falsified.result _ _ (omega arith) refl (omega arith))))
    c.if-propagate_list.false

pub loop-i-preserved : goal.loop-i-preserved
loop-i-preserved c =
    let loop = c.loop-i in
    elim c.if-level.branch [
      | then-level+then-propagate_list w ↦ going_at (going_then loop.invariant w.propagate_list.result
          (λ listed. w.propagate_list.ensures
          (w.list_of-list.ensures c.args.codes.now (lent_starts c.requires.lent listed w.falsified.result _ _ (omega arith) refl
          (omega arith))))
          w.if-propagate_list.true w.propagate_list.auto.work w.propagate_list.auto.sets) w.work-is w.sets-is
      | else-level w ↦ going_at loop.invariant w.work-is w.sets-is
    ]
