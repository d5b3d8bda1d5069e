-- `is_reason` meets its contract. Assumes nothing.
use mathlib.Core.Path.{sym, ◌∙◌}
use Rattle.engine.proofs.search.HeldSteps.{has_at, none_more}
use native.Mathlib.Omega.{arith}
use Rattle.engine.proofs.search.shortening.is_reason.Goals as goal

pub loop-l-preserved : goal.loop-l-preserved
loop-l-preserved c =
    let loop = c.loop-l in
    none_more c.args.own.now c.args.k loop.l loop.invariant (sym (has_at _ (omega arith) _ (omega arith) c.has.ensures) ∙ c.if-has.false)
