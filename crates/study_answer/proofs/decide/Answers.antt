-- `decide` meets its contract, from what `study` promises. Assumes nothing.
use Rattle.study_answer.proofs.HouseLaws.{decided_so}
use Rattle.study_answer.proofs.decide.Goals as goal

pub returns : goal.returns
returns c = decided_so c.study.ensures
