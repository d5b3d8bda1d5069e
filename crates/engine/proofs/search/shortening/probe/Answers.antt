-- `probe` meets its contract. Assumes nothing.
use Rattle.engine.proofs.search.HeldSteps.{moved_same, ends}
use Rattle.engine.proofs.search.shortening.probe.Goals as goal

pub loop-left-init : goal.loop-left-init
loop-left-init c = λ coded. c.propagate_all-going.ensures.on _ _ _ coded (c.begin.ensures _)

pub returns-in_default : goal.returns-in_default
returns-in_default c = ends c.next.new.own c.loop-left.invariant c.next.ensures.same c.is_reason.ensures

pub loop-left-preserved : goal.loop-left-preserved
loop-left-preserved c = λ coded. c.step-going.ensures.on _ coded (moved_same c.next.ensures.same (c.loop-left.invariant coded))
