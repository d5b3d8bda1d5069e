-- `formula::magnitude_at` meets its contract. Assumes nothing.
use mathlib.Core.Path.{sym, ap, ◌∙◌}
use lib.ListN.{get_or, get_or-eq_default}
use lib.IntN.{pos, nat_abs}
use Rattle.formula.proofs.Opposite.{nat_abs_bits}
use Rattle.formula.proofs.magnitude_at.Goals as goal

pub returns-then-i-literals : goal.returns-then-i-literals
returns-then-i-literals c =
    let given = c.args in
    c.magnitude.ensures ∙ nat_abs_bits (get_or given.literals.now given.i (pos 0)) c.magnitude-arg-1.given

pub returns-else-i-literals : goal.returns-else-i-literals
returns-else-i-literals c = sym (ap nat_abs (get_or-eq_default c.args.literals.now (pos 0) c.if-i-literals.false))
