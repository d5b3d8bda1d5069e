-- `cnf_text::first_like` meets its contract. Assumes nothing.
use Rattle.cnf_text.proofs.KeptLaws.{found_itself}
use Rattle.cnf_text.proofs.first_like.Goals as goal

pub returns : goal.returns
returns c = found_itself c.args.rows.now c.args.i c.args.count c.loop-j.j c.loop-j-test.false c.loop-j.invariant
