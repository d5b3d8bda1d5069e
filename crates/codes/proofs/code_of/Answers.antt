-- `codes::code_of` meets its contract: a small number has its opposite in the type.
-- Assumes nothing.
use native.Mathlib.Omega.{arith}
use mir.Facts.{to_z-of_z}
use Rattle.formula.proofs.Opposite.{non_neg_opposite, non_neg_other}
use Rattle.codes.proofs.Words.{opposite_fits_word, opposite_bits, opposite_name, name_bits, code_of_negative, code_of_positive}
use Rattle.codes.proofs.code_of.Goals as goal

pub overflow_sub-name : goal.overflow_sub-name
overflow_sub-name c =
    opposite_fits_word c.args.literal c.ranges.literal c.requires

pub overflow_cast-result : goal.overflow_cast-result
overflow_cast-result c = (
  rw (opposite_bits c.args.literal c.ranges.literal c.requires)
      (non_neg_opposite c.args.literal (rw (to_z-of_z c.ranges.literal) at c.if-literal-lt0.true)),
  rw (opposite_name c.args.literal
      c.ranges.literal c.requires) (record { fits = omega (arith, c.requires) }),
)

pub overflow_mul-result : goal.overflow_mul-result
overflow_mul-result c =
    rw (opposite_name c.args.literal c.ranges.literal c.requires) (record { fits = omega (arith, c.requires) })

pub overflow_add-result : goal.overflow_add-result
overflow_add-result c =
    rw (opposite_name c.args.literal c.ranges.literal c.requires) (record { fits = omega (arith, c.requires) })

pub overflow_cast-result-then-literal-lt0 : goal.overflow_cast-result-then-literal-lt0
overflow_cast-result-then-literal-lt0 c =
    rw (opposite_name c.args.literal c.ranges.literal c.requires) (record { fits = omega (arith, c.requires) })

pub overflow_cast-result-else-literal-lt0 : goal.overflow_cast-result-else-literal-lt0
overflow_cast-result-else-literal-lt0 c = (
  rw (to_z-of_z c.ranges.literal)
      (non_neg_other c.args.literal (rw (to_z-of_z c.ranges.literal) at c.if-literal-lt0.false)),
  rw (name_bits c.args.literal
      c.ranges.literal c.requires) (record { fits = omega (arith, c.requires) }),
)

pub overflow_mul-result-else-literal-lt0 : goal.overflow_mul-result-else-literal-lt0
overflow_mul-result-else-literal-lt0 c =
    rw (name_bits c.args.literal c.ranges.literal c.requires) (record { fits = omega (arith, c.requires) })

pub overflow_cast-result-else-literal-lt0-2 : goal.overflow_cast-result-else-literal-lt0-2
overflow_cast-result-else-literal-lt0-2 c =
    rw (name_bits c.args.literal c.ranges.literal c.requires) (record { fits = omega (arith, c.requires) })

pub returns-then-literal-lt0 : goal.returns-then-literal-lt0
returns-then-literal-lt0 c =
    rw (opposite_name c.args.literal c.ranges.literal c.requires)
    (code_of_negative c.args.literal (rw (to_z-of_z c.ranges.literal) at c.if-literal-lt0.true))

pub returns-else-literal-lt0 : goal.returns-else-literal-lt0
returns-else-literal-lt0 c =
    rw (name_bits c.args.literal c.ranges.literal c.requires)
    (code_of_positive c.args.literal (rw (to_z-of_z c.ranges.literal) at c.if-literal-lt0.false))
