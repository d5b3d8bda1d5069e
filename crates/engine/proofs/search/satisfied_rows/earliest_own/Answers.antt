-- `earliest_own` meets its contract. The invariant: what the rest has, the clause has. Assumes nothing.
use native.Mathlib.Omega.{arith}
use Rattle.engine.proofs.search.TermLaws.{earliest_next}
use Rattle.engine.proofs.search.satisfied_rows.earliest_own.Goals as goal

pub loop-e-preserved : goal.loop-e-preserved
loop-e-preserved c =
    let loop = c.loop-e in
    let given = c.args in
    earliest_next given.kinds.now given.codes.now given.work.now given.i given.start loop.e loop.best
    c.from-c.result
    c.earlier_own-best.result (omega arith) c.from-c.ensures (λ z. omega arith) c.earlier_own-best.ensures loop.invariant
