-- `forecast::telling` meets its contract. The loop's invariant: the bits tell the row from those passed. Assumes nothing.
use native.Mathlib.Omega.{arith}
use Rattle.forecast.proofs.StartLaws.{tells_next}
use Rattle.forecast.proofs.telling.Goals as goal

pub loop-j-preserved : goal.loop-j-preserved
loop-j-preserved c = (
  omega arith,
  tells_next c.args.rows.now c.args.i c.loop-j.j c.loop-j.bits c.shared.result c.loop-j.invariant.1 c.shared.ensures c.max-bits.result
      c.max-bits.ensures,
)
