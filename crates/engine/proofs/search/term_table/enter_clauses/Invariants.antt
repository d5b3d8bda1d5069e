-- `enter_clauses` meets its contract. The invariant: the clauses passed are in the table. Assumes nothing.
use Rattle.formula.specs.Formula.{max_clauses}
use Rattle.engine.proofs.search.ListLaws.{Entering}
use lib.ListN.{length}
use Prim.Native.Nat.{◌-◌, ◌≤◌}
use Rattle.engine.proofs.search.term_table.enter_clauses.Given as goal

abbrev pub invariant-loop-start : goal.invariant-loop-start
invariant-loop-start l = (l.j ≤ max_clauses) × (l.start ≤ length l.codes) × Entering l.kinds l.codes l.terms l.j l.start

abbrev pub decreases-loop-start : goal.decreases-loop-start
decreases-loop-start l = length l.codes - l.start
