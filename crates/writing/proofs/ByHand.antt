-- A text written by hand: two blocks, names of one and of five digits, both signs, an empty clause. Assumes nothing.
use mathlib.Core.Path.{◌≡◌, refl}
use mathlib.Core.List.{[], ◌∷◌}
use lib.IntN.{pos, negsuc}
use Rattle.report.specs.Report.{ascii, decimal}
use Rattle.writing.specs.Writing.{p_line, written}

pub by_hand : written (1 ∷ 0 ∷ 0 ∷ []) (pos 1 ∷ negsuc 2 ∷ pos 0 ∷ pos 0 ∷ []) (7 ∷ 30000 ∷ 20 ∷ []) 32767 ≡ ascii "p cnf 32767 2\na 7 0\ne 30000 20 0\n7 -20 0\n0\n"
unfolding written p_line decimal
by_hand = refl

pub nothing : written [] [] [] 0 ≡ ascii "p cnf 0 0\n"
unfolding written p_line decimal
nothing = refl
