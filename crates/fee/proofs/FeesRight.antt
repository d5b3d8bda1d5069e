-- What 02 says of every fee. Assumes nothing.
use mathlib.Core.Path.{refl}
use native.Mathlib.Nat.{zero-mul}
use Rattle.fee.specs.Rounding.{nearest_even}
use Rattle.fee.specs.Fee.{fee_on}
use Rattle.fee.specs.FeesRight.{FeesRight}
use Rattle.fee.proofs.BandsRight.{bands_right, built_in_loaded}
use Rattle.fee.proofs.Halves.{rounded_right, fees_rounded}
use Rattle.fee.proofs.Study.{study_pays}

pub fees_right : FeesRight
unfolding fee_on nearest_even
fees_right =
    record {
      no_rounds = λ kinds. rw zero-mul refl;
      no_rounds_with = λ firsts prices kinds. rw zero-mul refl;
      studies = study_pays;
      bands = bands_right;
      built_in = built_in_loaded;
      rounding = rounded_right;
      rounded = fees_rounded;
    }
