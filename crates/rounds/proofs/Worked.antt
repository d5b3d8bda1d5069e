-- The runs worked by hand come out as 01 says, by computation. Assumes nothing.
use mathlib.Core.Path.{refl}
use Rattle.rounds.specs.Worked.{Worked}
use Rattle.rounds.specs.Run.{run, round_of, clears}
use Rattle.rounds.specs.Opening.{opening}
use Rattle.expansion.specs.Model.{search, first_model, is_model}
use Rattle.expansion.specs.Copies.{copies}
use Rattle.expansion.specs.Judge.{accepted}
use Rattle.preference.specs.Preference.{prefer, parity}

pub worked : Worked
unfolding prefer parity run round_of clears opening search first_model is_model copies accepted
worked =
    record {
      runs = refl;
      k1_a = refl;
      k1_s = refl;
      k1_marks = refl;
      k11_both = refl;
      k11_one = refl;
      last_opens = refl;
      opened_s = refl;
      opened_so = refl;
      first_opens_not = refl;
      broken_a = refl;
      broken_so = refl;
      first_breaks_not = refl;
      lengths = refl;
      openings = refl;
    }
