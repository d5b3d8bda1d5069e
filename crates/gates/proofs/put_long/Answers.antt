-- `gates::put_long` meets its contract. The loop's invariant: what the inputs left would add makes the whole. Assumes nothing.
use native.Mathlib.Omega.{arith}
use mathlib.Core.Path.{sym, ap, ◌∙◌}
use lib.IntN.{ℤ, pos}
use lib.ListN.{get_or}
use lib.Seq.{sets}
use mir.Facts.{to_z-of_z}
use mir.Syntax.{w32}
use mir.Val.{to_z, of_z}
use Rattle.gates.specs.Private.Steps.{long_entries}
use Rattle.gates.proofs.EntryLaws.{small_at, stored, long_first, long_more, long_done}
use Rattle.gates.proofs.put_long.Goals as goal

pub loop-input-preserved : goal.loop-input-preserved
loop-input-preserved c =
    let loop = c.loop-input in
    let given = c.args in
    let is = given.inputs.now in
    let i = loop.input-index in
    let z = get_or is i (pos 0) in (
      omega arith,
      loop.invariant.1
          ∙ long_more loop.entries loop.to (to_z w32 (of_z w32 given.first)) given.turned is i c.loop-input-test.true
          (to_z w32 (of_z w32 c.turn_if.result))
          (stored given.turned z c.turn_if.result (small_at is c.requires.0 i) c.turn_if.ensures),
    )

pub returns : goal.returns
returns c =
    let loop = c.loop-input in
    let given = c.args in
    let turned = given.turned in
    let is = given.inputs.now in
    let first = to_z w32 (of_z w32 given.first) in
    sym
    (ap (λ (z : ℤ). sets given.entries.now given.at (long_entries z turned is)) (sym (to_z-of_z c.ranges.first))
    ∙ long_first given.entries.now given.at first turned is
    ∙ loop.invariant.1
    ∙ long_done loop.entries loop.to first turned is loop.input-index c.loop-input-test.false)
