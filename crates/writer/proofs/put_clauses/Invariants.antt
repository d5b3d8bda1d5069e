-- `writer::put_clauses` meets its contract. The loop's invariant: the lines from the entry on that is next are left. Assumes nothing.
use lib.ListN.{drop}
use Rattle.writer.proofs.PutLaws.{Left}
use Rattle.writing.specs.Writing.{clause_lines}
use Rattle.writer.proofs.put_clauses.Given as goal

abbrev pub invariant-loop-literal : goal.invariant-loop-literal
invariant-loop-literal l = Left (clause_lines l.names l.literals) l.at l.initial.text (clause_lines l.names (drop l.literal-index l.literals)) l.end l.text
