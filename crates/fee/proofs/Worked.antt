-- The fees worked by hand come out, by computation. Assumes nothing.
use mathlib.Core.Path.{refl}
use Rattle.fee.specs.Rounding.{nearest_even}
use Rattle.fee.specs.Fee.{price, fee_on}
use Rattle.fee.specs.Worked.{Worked}

pub worked : Worked
unfolding price fee_on nearest_even
worked = record { fees = refl }
