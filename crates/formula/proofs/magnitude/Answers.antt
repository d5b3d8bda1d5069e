-- `formula::magnitude` meets its contract: only the lowest number has no opposite, and it is answered first.
-- Assumes nothing.
use mathlib.Core.Path.{sym, ◌∙◌}
use Rattle.formula.proofs.Opposite.{nat_abs_lowest, nat_abs_other, nat_abs_bits}
use Rattle.formula.proofs.magnitude.Goals as goal

pub returns-then-literal-eq-LOWEST : goal.returns-then-literal-eq-LOWEST
returns-then-literal-eq-LOWEST c = sym (nat_abs_lowest c.args.literal c.if-literal-eq-LOWEST.true)

pub absolute-requires : goal.absolute-requires
absolute-requires c =
    rw (nat_abs_bits c.args.literal c.ranges.literal.sfits) (nat_abs_other c.args.literal c.ranges.literal
    c.if-literal-eq-LOWEST.false)

pub returns : goal.returns
returns c = c.absolute.ensures ∙ nat_abs_bits c.args.literal c.ranges.literal.sfits
