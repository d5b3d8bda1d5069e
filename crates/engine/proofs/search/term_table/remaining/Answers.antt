-- `remaining` meets its contract. Assumes nothing.
use Rattle.engine.proofs.search.ClauseLaws.{reading_passed, reading_more}
use native.Mathlib.Omega.{arith}
use Rattle.engine.proofs.search.term_table.remaining.Goals as goal
use Rattle.engine.proofs.search.term_table.remaining.Goals.{then-c-le-LAST_CODE, else-c-le-LAST_CODE}

pub loop-e-preserved : goal.loop-e-preserved
loop-e-preserved c =
    elim c.if-c-le-LAST_CODE.branch [
      | then-c-le-LAST_CODE w ↦ rw w.left-is (reading_more c.loop-e.invariant _ (omega arith) c.from-c.ensures (λ z. omega arith))
      | else-c-le-LAST_CODE w ↦ rw w.left-is (reading_passed c.loop-e.invariant _ (omega arith) c.from-c.ensures (λ z. omega arith))
    ]
