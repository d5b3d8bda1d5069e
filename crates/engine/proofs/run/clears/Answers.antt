-- `run::clears` meets its contract. Assumes nothing.
use Rattle.engine.proofs.run.ClearingLaws.{never_clears, clears_divided}
use Rattle.engine.proofs.run.clears.Goals as goal

pub returns-then-clear_every-eq0 : goal.returns-then-clear_every-eq0
returns-then-clear_every-eq0 c = never_clears c.args.clear_every c.args.round c.if-clear_every-eq0.true

pub returns : goal.returns
returns c = clears_divided c.args.clear_every c.args.round c.if-clear_every-eq0.false
