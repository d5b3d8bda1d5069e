-- Causes worked by hand: 1 to 3 come before 15, 15 before 27; one value too many is refused, and so is the value 2. Assumes nothing.
use mathlib.Core.Path.{◌≡◌, refl}
use mathlib.Core.List.{[], ◌∷◌}
use lib.IntN.{pos}
use Rattle.formula.specs.Causes.{checked, cause_1, cause_2, cause_3}
use Rattle.restriction.specs.Outcome.{wrong_values, cause}

-- A kind 2, no place for the literal, and a value 2.
pub kind_before_output : cause (2 ∷ []) (pos 0 ∷ []) (2 ∷ []) [] ≡ 1
unfolding cause checked cause_1 cause_2 cause_3 wrong_values
kind_before_output = refl

pub output_before_values : cause [] (pos 0 ∷ []) (2 ∷ []) [] ≡ 15
unfolding cause checked cause_1 cause_2 cause_3 wrong_values
output_before_values = refl

pub one_value_too_many : cause (0 ∷ []) [] (1 ∷ 1 ∷ []) [] ≡ 27
unfolding cause checked cause_1 cause_2 cause_3 wrong_values
one_value_too_many = refl

pub value_2 : cause (0 ∷ []) [] (2 ∷ []) [] ≡ 27
unfolding cause checked cause_1 cause_2 cause_3 wrong_values
value_2 = refl

pub every_unknown_set : cause (0 ∷ []) [] (1 ∷ []) [] ≡ 0
unfolding cause checked cause_1 cause_2 cause_3 wrong_values
every_unknown_set = refl
