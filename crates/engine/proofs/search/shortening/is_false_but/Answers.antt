-- `is_false_but` meets its contract. Assumes nothing.
use Rattle.engine.proofs.search.HeldSteps.{reading_more}
use native.Mathlib.Omega.{arith}
use Rattle.engine.proofs.search.shortening.is_false_but.Goals as goal

pub loop-e-preserved : goal.loop-e-preserved
loop-e-preserved c = reading_more c.loop-e.invariant (omega arith) _ c.from-c.ensures
    (λ z. omega arith) (c.is_false_or.ensures c.if-not-is_false_or.false)
