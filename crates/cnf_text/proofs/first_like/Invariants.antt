-- `cnf_text::first_like` meets its contract. Assumes nothing.
use Rattle.cnf_text.proofs.KeptLaws.{UnlikeBelow}
use Rattle.cnf_text.proofs.first_like.Given as goal

abbrev pub invariant-loop-j : goal.invariant-loop-j
invariant-loop-j l = UnlikeBelow l.rows l.i l.count l.j
