-- The copies worked by hand come out, by computation. Assumes nothing.
use mathlib.Core.Path.{refl}
use Rattle.expansion.specs.Copies.{copies}
use Rattle.expansion.specs.CopyCases.{CopyCases}

pub copy_cases : CopyCases
unfolding copies
copy_cases = record { by_restriction = refl; in_front = refl; no_rows = refl }
