-- The worked formulas have these verdicts: the recursive meaning, computed. Assumes nothing.
use mathlib.Core.Path.{refl}
use Rattle.formula.specs.Meaning.{verdict}
use Rattle.formula.specs.Verdicts.{VerdictsRight}

pub verdicts_right : VerdictsRight
unfolding verdict
verdicts_right = record { k1 = refl; k2 = refl; k3 = refl; k4 = refl; k5 = refl; k12 = refl; k13 = refl }
