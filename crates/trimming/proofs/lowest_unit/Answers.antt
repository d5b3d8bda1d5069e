-- `trimming::lowest_unit` meets its contract. The loop's invariant: no unknown passed is noted.
-- Assumes nothing.
use native.Mathlib.Omega.{arith}
use Rattle.trimming.proofs.FirstLaws.{unit_found, unit_nowhere}
use Rattle.trimming.proofs.lowest_unit.Goals as goal

pub returns-then-first : goal.returns-then-first
returns-then-first c =
    let loop = c.loop-name in
    unit_found c.args.kinds.now c.args.firsts.now c.requires.0 c.requires.1 loop.name (omega arith) c.loop-name-test.true loop.invariant
    c.if-first.true c.unit.result c.unit.ensures

pub returns : goal.returns
returns c =
    unit_nowhere c.args.kinds.now c.args.firsts.now c.requires.0 c.requires.1
    (λ w a b. c.loop-name.invariant w a (let l = c.loop-name-test.false in omega arith))
