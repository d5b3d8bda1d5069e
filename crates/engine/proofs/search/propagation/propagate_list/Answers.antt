-- `propagation::propagate_list` meets its contract. The invariant: no look has failed. Assumes nothing.
use native.Mathlib.Omega.{arith}
use lib.ListN.{length}
use Rattle.engine.proofs.search.PropagationLaws.{going_then, going_at, going_ends, starts_at}
use Rattle.engine.proofs.search.propagation.propagate_list.Goals as goal
use Rattle.engine.proofs.search.propagation.propagate_list.Goals.{else-repeats+then-propagate_clause, then-repeats}

pub returns-else-propagate_clause : goal.returns-else-propagate_clause
returns-else-propagate_clause c =
    let look = c.propagate_clause in
    let loop = c.loop-place in
    let given = c.args in
    going_ends loop.invariant look.new.work look.new.sets look.result
    (λ starts. look.ensures
    (starts_at given.codes.now given.list.now 0 (length given.list.now) loop.place-index _ (omega arith) c.loop-place-test.true
    c.from-start.ensures starts)) c.if-propagate_clause.false

pub loop-place-preserved : goal.loop-place-preserved
loop-place-preserved c =
    let loop = c.loop-place in
    let given = c.args in
    elim c.if-repeats.branch [
      | then-repeats w ↦ going_at loop.invariant w.work-is w.sets-is
      | else-repeats+then-propagate_clause w ↦ going_at (going_then loop.invariant w.propagate_clause.result
          (λ starts. w.propagate_clause.ensures
          (starts_at given.codes.now given.list.now 0 (length given.list.now) loop.place-index _ (omega arith) c.loop-place-test.true
          c.from-start.ensures starts)) w.if-propagate_clause.true w.propagate_clause.auto.work w.propagate_clause.auto.sets) w.work-is w.sets-is
    ]
