-- `codes::encode_clause` meets its contract. The loop's invariant: the codes written are those of the clause so far, and only
-- they are marked as seen. Assumes nothing.
use Rattle.codes.proofs.ReadLaws.{SoFar}
use Rattle.codes.proofs.encode_clause.Given as goal

abbrev pub invariant-loop-i : goal.invariant-loop-i
invariant-loop-i l = SoFar l.literals l.from l.i l.start l.to l.initial.codes l.codes l.seen
