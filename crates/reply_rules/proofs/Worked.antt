-- The games worked by hand come out as worked. Assumes nothing.
use mathlib.Core.Path.{refl}
use Rattle.expansion.specs.Copies.{copies}
use Rattle.expansion.specs.Model.{is_model, first_model, search}
use Rattle.expansion.specs.Judge.{accepted}
use Rattle.case_rules.specs.Restricted.{restricted}
use Rattle.reply_rules.specs.Position.{borne_out}
use Rattle.reply_rules.specs.Worked.{WorkedGames}

pub worked : WorkedGames
unfolding copies is_model first_model search accepted restricted borne_out
worked =
    record {
      k1_true = refl;
      k1_false = refl;
      k2_true = refl;
      k2_false = refl;
      chain_first = refl;
      chain_last = refl;
      chain_lost = refl;
      half_the_rows = refl;
    }
