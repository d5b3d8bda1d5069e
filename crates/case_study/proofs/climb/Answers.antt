-- `case_study::climb` meets its contract. The loop's invariant: what the whole comes to is what it comes to at the level reached. Assumes nothing.
use Prim.Native.Nat.{◌-◌, ◌+◌}
use native.Mathlib.Omega.{arith}
use mathlib.Core.Path.{◌≡◌}
use lib.ListN.{get_or}
use Rattle.restriction.specs.Outcome.{value_of}
use Rattle.case_study.proofs.PathLaws.{same_byte, other_byte}
use Rattle.case_study.proofs.ByteLaws.{climbed_top, past_second, past_first, turned_there}
use Rattle.case_study.proofs.climb.Goals as goal

pub returns-then-verdict-kind : goal.returns-then-verdict-kind
returns-then-verdict-kind c =
    let same : c.loop-level.level - 1 + 1 ≡ c.loop-level.level = omega (arith, c.loop-level-test.true) in
    rw same (turned_there c.args.kinds.now c.args.values.now c.args.depth (value_of c.args.verdict) c.loop-level.values c.loop-level.level
    c.loop-level.invariant (c.loop-level.level - 1) (omega (arith, c.loop-level-test.true)) c.requires.1 c.if-values-level.true
    (same_byte c.args.verdict (get_or c.args.kinds.now (c.loop-level.level - 1) 0) c.if-verdict-kind.true))

pub loop-level-preserved-else-verdict-kind : goal.loop-level-preserved-else-verdict-kind
loop-level-preserved-else-verdict-kind c = past_first c.args.kinds.now c.args.values.now c.args.depth (value_of c.args.verdict) c.loop-level.values
    c.loop-level.level c.loop-level.invariant (c.loop-level.level - 1) (omega (arith, c.loop-level-test.true)) c.requires.1 c.if-values-level.true
    (other_byte c.args.verdict (get_or c.args.kinds.now (c.loop-level.level - 1) 0) c.requires.2 (c.requires.1 (c.loop-level.level - 1))
    c.if-verdict-kind.false)

pub loop-level-preserved : goal.loop-level-preserved
loop-level-preserved c = past_second c.args.kinds.now c.args.values.now c.args.depth (value_of c.args.verdict) c.loop-level.values c.loop-level.level
    c.loop-level.invariant (c.loop-level.level - 1) (omega (arith, c.loop-level-test.true)) c.if-values-level.false

pub returns : goal.returns
returns c = climbed_top c.args.kinds.now c.args.values.now c.args.depth (value_of c.args.verdict) c.loop-level.values c.loop-level.level c.loop-level.invariant
    c.loop-level-test.false
