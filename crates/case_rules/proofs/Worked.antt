-- The cases worked by hand come out as worked. Assumes nothing.
use mathlib.Core.Path.{refl}
use Rattle.expansion.specs.Copies.{copies}
use Rattle.expansion.specs.Model.{is_model, first_model, search}
use Rattle.expansion.specs.Judge.{accepted}
use Rattle.case_rules.specs.Restricted.{restricted}
use Rattle.case_rules.specs.Casebook.{holds}
use Rattle.case_rules.specs.ByCases.{decided, tried}
use Rattle.case_rules.specs.Evidence.{shown}
use Rattle.case_rules.specs.Worked.{WorkedCases}

pub worked : WorkedCases
unfolding copies is_model first_model search accepted restricted holds decided tried shown
worked =
    record {
      first_true = refl;
      first_false = refl;
      alike = refl;
      not_alike = refl;
      two_of_three = refl;
      k1_holds = refl;
      k1_gathered = refl;
      k2_holds = refl;
      k2_gathered = refl;
      one_not_enough = refl;
      k1_not_false = refl;
      k1_decided = refl;
      k2_decided = refl;
      not_tried = refl;
      k1_shown = refl;
    }
