-- `fee::rises` meets its contract. The loop's invariant: `rising` is whether the first rounds up to the one before place i rise.
-- Assumes nothing.
use native.Mathlib.Omega.{arith}
use Rattle.fee.proofs.RisingLaws.{all_seen}
use Rattle.fee.proofs.rises.Goals as goal

pub returns : goal.returns
returns c = all_seen c.args.firsts.now c.loop-i.rising c.loop-i.i c.loop-i.invariant.1 (omega arith)
