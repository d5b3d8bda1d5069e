-- `reply::keep_fitting` meets its contract. The loop's invariant: of the rows passed those that fit are kept.
-- Assumes nothing.
use Rattle.judge.specs.Judge.{claims_true}
use Rattle.restriction.specs.Outcome.{values_of}
use Rattle.reply.specs.Private.Fitting.{Fitted}
use Rattle.reply.proofs.keep_fitting.Given as goal

abbrev pub invariant-loop-i : goal.invariant-loop-i
invariant-loop-i l = Fitted (claims_true l.claim) l.kinds (values_of l.moves) l.rows l.i l.table l.to
