-- `reply::keep_fitting` meets its contract. Assumes nothing.
use native.Mathlib.Omega.{arith}
use Rattle.judge.specs.Judge.{claims_true}
use Rattle.restriction.specs.Outcome.{values_of}
use Rattle.reply.proofs.FittedLaws.{none_fitted, one_kept}
use Rattle.reply.proofs.keep_fitting.Goals as goal

pub loop-i-init : goal.loop-i-init
loop-i-init c =
    let given = c.args in
    none_fitted (claims_true given.claim) given.kinds.now (values_of given.moves.now) given.rows.now given.table.now c.requires.4

pub loop-i-preserved : goal.loop-i-preserved
loop-i-preserved c =
    let given = c.args in
    let turn = c.loop-i in
    let next = one_kept (claims_true given.claim) given.kinds.now given.moves.now given.rows.now turn.i turn.table turn.to turn.invariant
    c.requires.0 c.requires.1 (omega (arith, c.loop-i-test.true, c.requires.2)) c.row_fits-fit.ensures c.owned-from.ensures.value c.owned-width.ensures.value
    (omega (arith, turn.invariant.few, c.loop-i-test.true, turn.auto.table, c.requires.3)) c.keep-to.ensures.value c.keep-to.ensures.kept in
    next.1
