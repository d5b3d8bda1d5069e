-- The counts worked by hand come out as said, by computation. Assumes nothing.
use mathlib.Core.Path.{refl}
use Rattle.rounds.specs.Counted.{Counted}
use Rattle.rounds.specs.Counts.{searched, came, counts}
use Rattle.rounds.specs.Run.{run, round_of, clears}
use Rattle.expansion.specs.Model.{search, first_model, is_model}
use Rattle.expansion.specs.Copies.{copies}
use Rattle.preference.specs.Preference.{prefer, parity}

pub counted : Counted
unfolding prefer parity run round_of clears search first_model is_model copies searched came counts
counted =
    record {
      k1_a = refl;
      k1_s = refl;
      k12_a = refl;
      k12_s = refl;
      k2_cleared_a = refl;
      k12_cleared_a = refl;
      k12_cleared_s = refl;
      full = refl;
      full_counts_s = refl;
      full_counts_a = refl;
      left_counts_a = refl;
    }
