-- `name` meets its contract. The invariant: the terms passed are named. Assumes nothing.
use Rattle.engine.specs.Private.TermSteps.{Named}
use Rattle.engine.proofs.search.term_table.name.Given as goal

abbrev pub invariant-loop-t : goal.invariant-loop-t
invariant-loop-t l = Named l.terms l.t l.initial.opened l.opened
