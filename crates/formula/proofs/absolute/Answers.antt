-- `formula::absolute` meets its contract. Assumes nothing.
use mir.Facts.{to_z-of_z, Fits-nat_abs}
use Rattle.formula.proofs.Opposite.{bits_opposite, opposite_fits, nat_abs_opposite, non_neg_opposite, non_neg_other}
use Rattle.formula.proofs.absolute.Goals as goal

pub overflow_sub-opposite : goal.overflow_sub-opposite
overflow_sub-opposite c = rw (bits_opposite c.ranges.literal) (opposite_fits c.args.literal c.requires)

pub overflow_cast-result : goal.overflow_cast-result
overflow_cast-result c =
    let fits = opposite_fits c.args.literal c.requires in
    rw (bits_opposite c.ranges.literal, to_z-of_z fits)
    (non_neg_opposite c.args.literal (rw (to_z-of_z c.ranges.literal) at c.if-literal-lt0.true), Fits-nat_abs tt fits)

pub overflow_cast-result-else-literal-lt0 : goal.overflow_cast-result-else-literal-lt0
overflow_cast-result-else-literal-lt0 c =
    rw (to_z-of_z c.ranges.literal)
    (non_neg_other c.args.literal (rw (to_z-of_z c.ranges.literal) at c.if-literal-lt0.false), Fits-nat_abs tt c.ranges.literal)

pub returns-then-literal-lt0 : goal.returns-then-literal-lt0
returns-then-literal-lt0 c =
    rw (bits_opposite c.ranges.literal, to_z-of_z (opposite_fits c.args.literal c.requires))
    (nat_abs_opposite c.args.literal)

pub returns-else-literal-lt0 : goal.returns-else-literal-lt0
returns-else-literal-lt0 c = rw (to_z-of_z c.ranges.literal)
