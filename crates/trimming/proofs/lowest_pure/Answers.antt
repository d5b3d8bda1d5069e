-- `trimming::lowest_pure` meets its contract. The loop's invariant: no unknown passed stands in one sign only.
-- Assumes nothing.
use Rattle.trimming.proofs.PureLaws.{pure_found, pure_later, pure_nowhere}
use Rattle.trimming.proofs.lowest_pure.Goals as goal

pub returns-then-code-ne0 : goal.returns-then-code-ne0
returns-then-code-ne0 c =
    let loop = c.loop-position in
    λ cs h. pure_found c.args.index.now cs h c.args.kinds.now c.requires loop.position c.pure_at-code.result c.loop-position-test.true
    (loop.invariant c.requires cs h) c.pure_at-code.ensures c.if-code-ne0.true

pub loop-position-preserved : goal.loop-position-preserved
loop-position-preserved c =
    let loop = c.loop-position in
    λ few cs h. pure_later c.args.index.now cs h c.args.kinds.now c.requires loop.position c.pure_at-code.result c.loop-position-test.true
    (loop.invariant c.requires cs h) c.pure_at-code.ensures c.if-code-ne0.false

pub returns : goal.returns
returns c =
    λ cs h. pure_nowhere c.args.index.now cs h c.args.kinds.now c.requires c.loop-position.position c.loop-position-test.false
    (c.loop-position.invariant c.requires cs h)
