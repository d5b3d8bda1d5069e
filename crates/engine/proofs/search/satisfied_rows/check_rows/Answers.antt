-- `check_rows` meets its contract. The loop's invariant: the sets of the positions stay. Assumes nothing.
use native.Mathlib.Omega.{arith}
use Rattle.engine.proofs.search.SatisfiedRows.{a_row_satisfied}
use Rattle.engine.proofs.search.satisfied_rows.check_rows.Goals as goal

pub returns-then-row_satisfied : goal.returns-then-row_satisfied
returns-then-row_satisfied c =
    let loop = c.loop-i in
    a_row_satisfied _ _ _ _ _ _ loop.i _ _ _ _ _ (omega arith) loop.auto.i c.loop-i-test.true loop.invariant.1
    c.row_satisfied.ensures c.if-row_satisfied.true
