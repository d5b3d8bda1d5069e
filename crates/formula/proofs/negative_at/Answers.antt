-- `formula::negative_at` meets its contract. Assumes nothing.
use borrow.Author.Rules.{sfits_of}
use mathlib.Core.Path.{sym, ap}
use lib.ListN.{get_or, get_or-eq_default}
use lib.IntN.{pos}
use mir.Facts.{to_z-of_z}
use Rattle.formula.specs.Literal.{negative}
use Rattle.formula.proofs.Opposite.{below_zero_negative}
use Rattle.formula.proofs.negative_at.Goals as goal

pub returns-then-i-literals : goal.returns-then-i-literals
returns-then-i-literals c = rw (to_z-of_z (sfits_of c.result-1.given))
    (below_zero_negative (get_or c.args.literals.now c.args.i (pos 0)))

pub returns-else-i-literals : goal.returns-else-i-literals
returns-else-i-literals c = sym (ap negative (get_or-eq_default c.args.literals.now (pos 0) c.if-i-literals.false))
