-- `column` meets its contract. Assumes nothing.
use Rattle.engine.proofs.search.RowLaws.{told_own, told_more}
use native.Mathlib.Omega.{arith}
use Rattle.engine.proofs.search.term_table.column.Goals as goal

pub returns-then-kind-eq1 : goal.returns-then-kind-eq1
returns-then-kind-eq1 c = told_own _ _ _ _ _ (omega arith)

pub loop-l-preserved : goal.loop-l-preserved
loop-l-preserved c = told_more c.loop-l.invariant (λ z. omega arith) (omega arith) (omega arith) (omega arith) c.from-value.result c.from-value.ensures
