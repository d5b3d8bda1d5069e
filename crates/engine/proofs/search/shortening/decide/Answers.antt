-- `decide` meets its contract. Assumes nothing.
use Rattle.engine.proofs.search.HeldSteps.{decides}
use Rattle.engine.proofs.search.shortening.decide.Goals as goal

pub returns : goal.returns
returns c =
    let propagate_call = c.propagate in
    let enqueue_alone_call = c.enqueue_alone in
    let put_call = c.put in
    let new_level_call = c.new_level-level in
    let given = c.args in
    decides given.codes.now given.work.now given.line.now put_call.new.line propagate_call.new.line given.own.now
    new_level_call.new.own put_call.new.own enqueue_alone_call.new.own propagate_call.new.own
    given.i propagate_call.result new_level_call.ensures put_call.ensures enqueue_alone_call.ensures propagate_call.ensures
