-- `case_study::is_reached` meets its contract. Assumes nothing.
use Rattle.case_study.proofs.AskLaws.{unbounded, bound_reached, bound_ahead}
use Rattle.case_study.proofs.is_reached.Goals as goal

pub returns-then-bound-eq0 : goal.returns-then-bound-eq0
returns-then-bound-eq0 c = unbounded c.args.bound c.args.runs c.if-bound-eq0.true

pub returns-then-bound-runs : goal.returns-then-bound-runs
returns-then-bound-runs c = bound_reached c.args.bound c.args.runs c.if-bound-eq0.false c.if-bound-runs.true

pub returns : goal.returns
returns c = bound_ahead c.args.bound c.args.runs c.if-bound-eq0.false c.if-bound-runs.false
