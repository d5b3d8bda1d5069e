-- `decide_rows` meets its contract, from what `run` promises. Assumes nothing.
use Rattle.decision.proofs.DecisionLaws.{ended_so}
use Rattle.decision.proofs.decide_rows.Goals as goal

pub returns : goal.returns
returns c = ended_so c.run.ensures
