-- `fee::changes` meets its contract. The loop's invariant: `count` is the changes up to the kind before place i.
-- Assumes nothing.
use native.Mathlib.Omega.{arith}
use Rattle.fee.proofs.ChangeLaws.{none_past}
use Rattle.fee.proofs.changes.Goals as goal

pub returns : goal.returns
returns c = omega (arith, none_past c.args.kinds.now c.loop-i.i c.loop-i-test.false)
