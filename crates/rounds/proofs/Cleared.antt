-- The runs worked by hand with the universal table cleared come out as said, by computation. Assumes nothing.
use mathlib.Core.Path.{refl}
use Rattle.rounds.specs.Cleared.{Cleared}
use Rattle.rounds.specs.Run.{run, round_of, clears, highest}
use Rattle.rounds.specs.Counts.{searched, came, counts}
use Rattle.rounds.specs.GivenUp.{stored_after}
use Rattle.rows.specs.Row.{bytes_of}
use Rattle.expansion.specs.Model.{search, first_model, is_model}
use Rattle.expansion.specs.Copies.{copies}
use Rattle.preference.specs.Preference.{prefer, parity}

pub cleared : Cleared
unfolding prefer parity run round_of clears highest search first_model is_model copies searched came counts stored_after bytes_of
cleared =
    record {
      never = refl;
      every = refl;
      second = refl;
      third = refl;
      runs = refl;
      k1_a = refl;
      k2_a = refl;
      k12_a = refl;
      k12_highest = refl;
      left_a = refl;
      rows_0 = refl;
      rows_1 = refl;
      rows_2 = refl;
      rows_9 = refl;
      marks_0 = refl;
      marks_1 = refl;
      marks_2 = refl;
      marks_9 = refl;
      counts_1 = refl;
      counts_2 = refl;
      counts_9 = refl;
    }
