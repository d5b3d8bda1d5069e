-- `judge::counted` meets its contract. Assumes nothing.
use Rattle.judge.proofs.Causes.{other_over_1, none_other_to_1}
use Rattle.judge.proofs.counted.Goals as goal

pub returns-then-claim-gt1 : goal.returns-then-claim-gt1
returns-then-claim-gt1 c = rw (other_over_1 c.args.claim c.if-claim-gt1.true)

pub returns-else-claim-gt1 : goal.returns-else-claim-gt1
returns-else-claim-gt1 c = rw (none_other_to_1 c.args.claim c.if-claim-gt1.false)
