-- `reply::set_if` meets its contract.
-- Assumes nothing.
use Rattle.reply.proofs.set_if.Goals as goal

pub returns-then-value : goal.returns-then-value
returns-then-value c = rw c.if-value.true c.set_bit.ensures
