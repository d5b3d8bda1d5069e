-- `fill` meets its contract. The invariant: the rows of the words passed are done. Assumes nothing.
use Rattle.engine.specs.Private.TermSteps.{Filled}
use Rattle.codes.specs.Private.Clauses.{Coded}
use lib.ListN.{length}
use Prim.Native.Nat.{ℕ, ◌*◌, ◌≤◌}
use Rattle.engine.proofs.search.term_table.fill.Given as goal

abbrev pub invariant-loop-w : goal.invariant-loop-w
invariant-loop-w l = (m : ℕ) → m ≤ l.count → m ≤ 64 * l.w → Coded (length l.kinds) l.codes → Filled l.kinds l.codes l.terms l.work m l.opened
