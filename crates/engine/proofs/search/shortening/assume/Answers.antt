-- `assume` meets its contract: what is fixed is reached by nothing, what was decided by itself. Assumes nothing.
use Rattle.engine.proofs.search.HeldSteps.{fixed_held}
use native.Mathlib.Omega.{arith}
use Rattle.engine.proofs.search.shortening.assume.Goals as goal

pub returns-then-is_fixed : goal.returns-then-is_fixed
returns-then-is_fixed c =
    let value_call = c.value in
    let empty_call = c.empty in
    let given = c.args in
    fixed_held given.work.now given.sets.now given.line.now given.own.now c.set.new.line empty_call.new.sets given.i
    given.p value_call.result
    (omega arith) (omega arith) (c.is_fixed.ensures c.if-is_fixed.true) empty_call.ensures value_call.ensures
    c.set.ensures
