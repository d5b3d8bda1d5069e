-- `codes::is_beyond` meets its contract. Assumes nothing.
use mir.Facts.{to_z-of_z}
use Rattle.codes.proofs.Words.{beyond_negative, beyond_positive}
use Rattle.codes.proofs.is_beyond.Goals as goal

pub returns-then-literal-lt0 : goal.returns-then-literal-lt0
returns-then-literal-lt0 c = rw (to_z-of_z c.ranges.literal) (beyond_negative c.args.literal (rw (to_z-of_z c.ranges.literal) at c.if-literal-lt0.true))

pub returns-else-literal-lt0 : goal.returns-else-literal-lt0
returns-else-literal-lt0 c = rw (to_z-of_z c.ranges.literal) (beyond_positive c.args.literal (rw (to_z-of_z c.ranges.literal) at c.if-literal-lt0.false))
