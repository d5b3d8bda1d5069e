-- `gates::put_pairs` meets its contract. The loop's invariant: what the inputs left would add makes the whole. Assumes nothing.
use native.Mathlib.Omega.{arith}
use mathlib.Core.Path.{sym, ap, ◌∙◌}
use lib.IntN.{ℤ, pos}
use lib.ListN.{get_or}
use lib.Seq.{sets}
use mir.Facts.{to_z-of_z}
use mir.Syntax.{w32}
use mir.Val.{to_z, of_z}
use Rattle.gates.proofs.EntryLaws.{small_at, stored, pairs_more, pairs_done}
use Rattle.gates.specs.Private.Steps.{pair_entries}
use Rattle.gates.proofs.put_pairs.Goals as goal

pub loop-input-preserved : goal.loop-input-preserved
loop-input-preserved c =
    let loop = c.loop-input in
    let given = c.args in
    let is = given.inputs.now in
    let i = loop.input-index in
    let z = get_or is i (pos 0) in (
      omega arith,
      loop.invariant.1
          ∙ pairs_more loop.entries loop.to (to_z w32 (of_z w32 given.first)) given.turned is i c.loop-input-test.true
          (to_z w32 (of_z w32 c.turn_if-input.result))
          (stored given.turned z c.turn_if-input.result (small_at is c.requires.0 i) c.turn_if-input.ensures),
    )

pub returns : goal.returns
returns c =
    let loop = c.loop-input in
    let given = c.args in
    let is = given.inputs.now in
    sym
    (ap (λ (z : ℤ). sets given.entries.now given.at (pair_entries z given.turned is)) (sym (to_z-of_z c.ranges.first))
    ∙ loop.invariant.1
    ∙ pairs_done loop.entries loop.to (to_z w32 (of_z w32 given.first)) given.turned is loop.input-index c.loop-input-test.false)
