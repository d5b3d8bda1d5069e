-- `forecast::sum` meets its contract. The loop's invariant: the total and what is left to add are the sum. Assumes nothing.
use native.Mathlib.Omega.{arith}
use Rattle.forecast.proofs.ToldLaws.{adding_own, adding_other}
use Rattle.forecast.proofs.sum.Goals as goal
use Rattle.forecast.proofs.sum.Goals.{then-own, else-own}

pub loop-kind-preserved : goal.loop-kind-preserved
loop-kind-preserved c =
    let loop = c.loop-kind in
    elim c.if-own.branch [
      | then-own w ↦ rw (w.total-is, w.before-is)
          (adding_own c.args.kinds.now c.args.universal c.args.numbers.now c.args.count loop.total loop.before loop.kind-index loop.invariant
          c.loop-kind-test.true w.told_by-total.result w.if-own.true w.told_by-total.ensures.0 (omega (arith, w.told_by-total.ensures.1)))
      | else-own w ↦ rw (w.total-is, w.before-is)
          (adding_other c.args.kinds.now c.args.universal c.args.numbers.now c.args.count loop.total loop.before loop.kind-index loop.invariant
          c.loop-kind-test.true w.if-own.false)
    ]
