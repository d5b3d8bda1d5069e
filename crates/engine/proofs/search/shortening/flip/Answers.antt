-- `flip` meets its contract: the conflict's set without the position is what its other value is reached by. Assumes nothing.
use mathlib.Core.Path.{ap}
use mathlib.Core.Bool.{not}
use Rattle.engine.proofs.search.HeldSteps.{turns}
use Rattle.engine.proofs.search.shortening.flip.Goals as goal

pub returns : goal.returns
returns c =
    let propagate_call = c.propagate in
    let enqueue_alone_call = c.enqueue_alone in
    let set_call = c.set in
    let value_call = c.value in
    let inherit_call = c.inherit in
    let open_above_call = c.open_above in
    let given = c.args in
    turns given.codes.now given.work.now given.line.now open_above_call.new.line set_call.new.line propagate_call.new.line
    given.own.now inherit_call.new.own enqueue_alone_call.new.own propagate_call.new.own
    given.i given.p (not value_call.result) propagate_call.result open_above_call.ensures inherit_call.ensures (ap not value_call.ensures)
    set_call.ensures enqueue_alone_call.ensures propagate_call.ensures
