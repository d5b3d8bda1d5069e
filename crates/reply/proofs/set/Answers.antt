-- `reply::set` meets its contract.
-- Assumes nothing.
use Rattle.reply.proofs.JudgeLaws.{set_entries}
use Rattle.reply.proofs.set.Goals as goal

pub returns : goal.returns
returns c =
    let given = c.args in
    let fine = c.requires in
    let both = set_entries given.kinds.now given.literals.now given.moves.now given.left.now fine.0 fine.1 fine.2 _
    c.set_first.ensures.value c.set_first.ensures.output_after c.unwrap_or.ensures in
    record { upper_bound = both.0; left_after = both.1 }
