-- The lent bands worked by hand come out, by computation. Assumes nothing.
use mathlib.Core.Path.{refl}
use Rattle.formula.specs.Causes.{cause_1}
use Rattle.fee.specs.Bands.{cause_21, cause_22}
use Rattle.fee.specs.BandCases.{BandCases}

pub band_cases : BandCases
unfolding cause_21 cause_22 cause_1
band_cases = record { refusals = refl; prices = refl }
