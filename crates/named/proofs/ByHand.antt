-- Worked by hand: free names in order, and a formula closed by them. Assumes nothing.
use mathlib.Core.Path.{◌≡◌, refl}
use mathlib.Core.List.{List, [], ◌∷◌}
use lib.IntN.{ℤ, pos, negsuc}
use Rattle.named.specs.Named.{position}
use Rattle.named.specs.Closing.{insert, closed_names, closed_kinds, closed_literals}

-- By rising number, whatever name stands first.
pub rising : insert 19 (insert 3 (insert 100 (insert 20 []))) ≡ 3 ∷ 19 ∷ 20 ∷ 100 ∷ []
rising = refl

-- `a 3 0`, `e 4 0`, `3 4 0`, `-3 -4 0`, `1 -2 0`.
abbrev entries : List ℤ
entries = pos 3 ∷ pos 4 ∷ pos 0 ∷ negsuc 2 ∷ negsuc 3 ∷ pos 0 ∷ pos 1 ∷ negsuc 1 ∷ pos 0 ∷ []

pub names_worked : closed_names (1 ∷ 2 ∷ []) (3 ∷ 4 ∷ []) ≡ 1 ∷ 2 ∷ 3 ∷ 4 ∷ []
names_worked = refl

pub kinds_worked : closed_kinds (1 ∷ 2 ∷ []) (1 ∷ 0 ∷ []) ≡ 0 ∷ 0 ∷ 1 ∷ 0 ∷ []
kinds_worked = refl

pub literals_worked : closed_literals (1 ∷ 2 ∷ []) (3 ∷ 4 ∷ []) entries ≡ pos 3 ∷ pos 4 ∷ pos 0 ∷ negsuc 2 ∷ negsuc 3 ∷ pos 0 ∷ pos 1 ∷ negsuc 1 ∷ pos 0 ∷ []
unfolding position
literals_worked = refl

-- Positions are not names: 1 and 5 bound nowhere, `a 2 0`.
pub literals_moved : closed_literals (1 ∷ 5 ∷ []) (2 ∷ []) (pos 2 ∷ negsuc 4 ∷ pos 0 ∷ pos 1 ∷ pos 0 ∷ []) ≡ pos 3 ∷ negsuc 1 ∷ pos 0 ∷ pos 1 ∷ pos 0 ∷ []
unfolding position
literals_moved = refl
