-- `forecast::tell` meets its contract. The loop's invariant: the rows passed have their numbers. Assumes nothing.
use native.Mathlib.Omega.{arith}
use Rattle.forecast.proofs.StartLaws.{told_next}
use Rattle.forecast.proofs.tell.Goals as goal

pub loop-i-preserved : goal.loop-i-preserved
loop-i-preserved c = (
  omega arith,
  told_next c.args.rows.now c.loop-i.numbers c.loop-i.i c.telling.result (omega arith) c.loop-i.invariant.1 c.telling.ensures,
)
