-- `assign` meets its contract: the value that the clause forces is reached by the sets of its other positions. Assumes nothing.
use Rattle.engine.proofs.search.HeldSteps.{open_moves}
use native.Mathlib.Omega.{arith}
use Rattle.engine.proofs.search.shortening.assign.Goals as goal

pub returns : goal.returns
returns c =
    let set_call = c.set in
    let add_reasons_call = c.add_reasons in
    let empty_call = c.empty in
    let position_call = c.position-p in
    let given = c.args in
    λ begins looked.
    open_moves given.codes.now given.line.now given.own.now set_call.new.line empty_call.new.sets add_reasons_call.new.sets
    c.enqueue.new.own position_call.result given.start given.c
    (omega arith) (omega arith) position_call.ensures.1 (omega arith) (omega arith) position_call.ensures.0 (omega arith) empty_call.ensures
    add_reasons_call.ensures set_call.ensures c.enqueue.ensures begins looked
