-- Causes worked by hand: 1 to 3 come before 15, and an output table that is one entry short is refused. Assumes nothing.
use mathlib.Core.Path.{◌≡◌, refl}
use mathlib.Core.List.{[], ◌∷◌}
use lib.IntN.{pos}
use Rattle.formula.specs.Causes.{checked, cause_1, cause_2, cause_3}
use Rattle.trimming.specs.Outcome.{cause}

-- A kind 2, and no place for the literal.
pub kind_before_output : cause (2 ∷ []) (pos 0 ∷ []) [] ≡ 1
unfolding cause checked cause_1 cause_2 cause_3
kind_before_output = refl

pub one_place_short : cause [] (pos 0 ∷ []) [] ≡ 15
unfolding cause checked cause_1 cause_2 cause_3
one_place_short = refl
