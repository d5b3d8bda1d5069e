-- `terms_met` meets its contract. The invariant: the terms so far are met, if they are open. Assumes nothing.
use mathlib.Core.Path.{◌∙◌}
use Rattle.engine.proofs.search.TermLaws.{meeting_passed}
use Rattle.engine.proofs.search.satisfied_rows.terms_met.Goals as goal

pub loop-t-preserved : goal.loop-t-preserved
loop-t-preserved c =
    let loop = c.loop-t in
    let given = c.args in (
      c.is_passed.auto.sets ∙ loop.invariant.0,
      meeting_passed given.kinds.now given.codes.now given.opened.now given.work.now given.i
          given.sets.now loop.t loop.sets loop.invariant.1 _ c.is_passed.ensures c.if-is_passed.true,
    )
