-- `trimming::pure_at` meets its contract.
-- Assumes nothing.
use mathlib.Core.Path.{sym}
use mathlib.Core.Bool.{true, false}
use Rattle.trimming.proofs.PureLaws.{one_is}
use Rattle.trimming.proofs.pure_at.Goals as goal

pub returns-in-true-false : goal.returns-in-true-false
returns-in-true-false c = one_is c.args.index.now c.args.position true false (sym c.in-true-false.ensures) (sym c.in-true-false.ensures')

pub returns-in-false-true : goal.returns-in-false-true
returns-in-false-true c = one_is c.args.index.now c.args.position false true (sym c.in-false-true.ensures) (sym c.in-false-true.ensures')

pub returns-in_default : goal.returns-in_default
returns-in_default c = one_is c.args.index.now c.args.position true true (sym c.in_default.ensures) (sym c.in_default.ensures')

pub returns-in_default-2 : goal.returns-in_default-2
returns-in_default-2 c = one_is c.args.index.now c.args.position false false (sym c.in_default.ensures) (sym c.in_default.ensures')
