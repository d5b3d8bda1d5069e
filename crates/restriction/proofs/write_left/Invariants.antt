-- `restriction::write_left` meets its contract. The loop's invariant: what is left of the entries passed stands one after the other, and the entries
-- ahead are to leave the rest.
-- Assumes nothing.
use Rattle.restriction.specs.Outcome.{values_of}
use Rattle.restriction.proofs.WriteLaws.{Written}
use Rattle.restriction.proofs.write_left.Given as goal

abbrev pub invariant-loop-i : goal.invariant-loop-i
invariant-loop-i l = Written (values_of l.values) l.literals l.initial.output l.kept l.output l.to l.i
