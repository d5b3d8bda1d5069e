-- `reply::row_fits` meets its contract. The loop's invariant: the moves passed agree, and what is left says whether the row fits.
-- Assumes nothing.
use Prim.Native.Nat.{◌≤◌}
use mathlib.Core.Path.{◌≡◌}
use lib.ListN.{length}
use Rattle.formula.specs.Formula.{prefix}
use Rattle.rows.specs.Row.{bit_of}
use Rattle.rows.specs.Table.{row_at}
use Rattle.judge.specs.Judge.{claims_true}
use Rattle.restriction.specs.Outcome.{values_of}
use Rattle.reply.specs.Private.Fitting.{fits}
use Rattle.reply.proofs.FitLaws.{Left}
use Rattle.reply.proofs.row_fits.Given as goal

abbrev pub invariant-loop-kind : goal.invariant-loop-kind
invariant-loop-kind l =
    (l.bit ≤ length l.yielded)
    × (fits (claims_true l.claim) (prefix l.kinds) (values_of l.moves) (bit_of (row_at l.rows l.i)) ≡ Left (claims_true l.claim) (bit_of (row_at l.rows l.i))
    l.kinds (values_of l.moves) (length l.yielded) l.bit)
