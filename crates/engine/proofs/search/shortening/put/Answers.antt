-- `put` meets its contract: the row's value is reached by its own position. Assumes nothing.
use Rattle.engine.proofs.search.HeldSteps.{put_held}
use native.Mathlib.Omega.{arith}
use Rattle.engine.proofs.search.shortening.put.Goals as goal

pub returns : goal.returns
returns c =
    let value_call = c.value in
    let add_call = c.add in
    let empty_call = c.empty in
    let given = c.args in
    put_held given.work.now given.line.now given.own.now c.set.new.line empty_call.new.sets add_call.new.sets given.i
    given.p value_call.result
    (omega arith) (omega arith) (omega arith) empty_call.ensures add_call.ensures value_call.ensures c.set.ensures
