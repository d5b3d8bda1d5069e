-- `propagation::propagate_rows` meets its contract. The invariant: no look has failed. Assumes nothing.
use Prim.Native.Nat.{◌+◌}
use mathlib.Core.Bool.{false}
use native.Mathlib.Omega.{arith}
use lib.ListN.{length}
use Rattle.formula.specs.Formula.{max_unknowns}
use Rattle.engine.proofs.search.CallLaws.{empties}
use Rattle.engine.proofs.search.PropagationLaws.{going_then, going_last, going_ends, noted_first}
use Rattle.engine.proofs.search.propagation.propagate_rows.Goals as goal

pub returns-else-propagate_list : goal.returns-else-propagate_list
returns-else-propagate_list c =
    let propagate_list_call = c.propagate_list in
    let empty_call = c.empty in
    let given = c.args in
    λ h. noted_first given.differences.now given.codes.now 0 (length given.differences.now) 1 given.work.now
    propagate_list_call.new.work
    given.sets.now empty_call.new.sets propagate_list_call.new.sets false
    (empties _ c.requires.sets_lent (max_unknowns + 1) (omega arith) (omega arith)
    empty_call.ensures)
    (going_ends c.loop-i.invariant propagate_list_call.new.work propagate_list_call.new.sets
    propagate_list_call.result
    (λ h. propagate_list_call.ensures h.1) c.if-propagate_list.false h)

pub loop-i-preserved : goal.loop-i-preserved
loop-i-preserved c =
    let propagate_list_call = c.propagate_list in
    going_then c.loop-i.invariant propagate_list_call.result (λ h. propagate_list_call.ensures h.1) c.if-propagate_list.true
    propagate_list_call.auto.work propagate_list_call.auto.sets

pub returns : goal.returns
returns c =
    let propagate_call = c.propagate in
    let empty_call = c.empty in
    let given = c.args in
    λ h. noted_first given.differences.now given.codes.now 0 (length given.differences.now) 1 given.work.now propagate_call.new.work
    given.sets.now empty_call.new.sets propagate_call.new.sets propagate_call.result
    (empties _ c.requires.sets_lent (max_unknowns + 1) (omega arith) (omega arith)
    empty_call.ensures)
    (going_last c.loop-i.invariant propagate_call.new.work propagate_call.new.sets propagate_call.result
    (λ h. propagate_call.ensures h.0) h)
