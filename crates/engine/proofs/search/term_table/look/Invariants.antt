-- `look` meets its contract. The invariant: the literals of the positions passed miss where they may. Assumes nothing.
use Rattle.engine.specs.Private.TermSteps.{Missed}
use Prim.Native.Nat.{◌*◌}
use Rattle.engine.proofs.search.term_table.look.Given as goal

abbrev pub invariant-loop-k : goal.invariant-loop-k
invariant-loop-k l = Missed l.kinds l.work (64 * l.w) l.rows l.k l.misses
