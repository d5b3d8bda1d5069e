-- `inherit` meets its contract. Assumes nothing.
use Rattle.engine.proofs.search.HeldSteps.{inheriting_all}
use native.Mathlib.Omega.{arith}
use Rattle.engine.proofs.search.shortening.inherit.Goals as goal

pub returns : goal.returns
returns c = inheriting_all (omega arith) c.loop-l.invariant c.args.own.now (omega arith) c.empty.ensures (omega arith)
