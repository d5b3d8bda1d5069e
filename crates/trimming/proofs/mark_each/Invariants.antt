-- `trimming::mark_each` meets its contract. The loop's invariant: the clauses named so far have lost the literal.
-- Assumes nothing.
use lib.ListN.{drop}
use Rattle.trimming.specs.Private.Table.{Cleared}
use Rattle.trimming.proofs.mark_each.Given as goal

abbrev pub invariant-loop-name : goal.invariant-loop-name
invariant-loop-name l = Cleared l.code l.initial.table l.table (drop l.name-index l.names)
