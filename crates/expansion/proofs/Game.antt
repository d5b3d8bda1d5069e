-- The meaning of a prefix as a game of one side: the side wins an own unknown if one of the two values wins, another's if both do.
-- So each law is stated once, over flags and a goal, for both sides.
-- Assumes nothing.
use mathlib.Core.Path.{◌≡◌, refl, ap₂, ◌∙◌}
use mathlib.Core.Bool.{Bool, true, false, not, ◌&&◌, ◌||◌}
use mathlib.Core.List.{List, [], ◌∷◌}
use Rattle.formula.specs.Formula.{Kind, existential, universal}
use Rattle.formula.specs.Meaning.{after, meaning}
use Rattle.expansion.specs.Side.{flags, goal}

abbrev pub game : List Bool → (List Bool → Bool) → Bool
game [] psi = psi []
game (true ∷ ts) psi = game ts (after true psi) || game ts (after false psi)
game (false ∷ ts) psi = game ts (after true psi) && game ts (after false psi)

-- What a side wants of the formula: the existential side that it is true, the universal side that it is false.
abbrev pub reaches : Kind → List Kind → (List Bool → Bool) → Bool
reaches existential ks phi = meaning ks phi
reaches universal ks phi = not (meaning ks phi)

not_or : (a b : Bool) → not a && not b ≡ not (a || b)
not_or true b = refl
not_or false b = refl

not_and : (a b : Bool) → not a || not b ≡ not (a && b)
not_and true b = refl
not_and false b = refl

-- A side wins its game exactly if it reaches what it wants.
pub game_of_side : (side : Kind) (ks : List Kind) (phi : List Bool → Bool) → game (flags side ks) (goal side phi) ≡ reaches side ks phi
game_of_side existential [] phi = refl
game_of_side universal [] phi = refl
game_of_side existential (existential ∷ ks) phi =
    let behind = game_of_side existential ks in
    ap₂ ◌||◌ (behind (after true phi)) (behind (after false phi))
game_of_side existential (universal ∷ ks) phi =
    let behind = game_of_side existential ks in
    ap₂ ◌&&◌ (behind (after true phi)) (behind (after false phi))
game_of_side universal (existential ∷ ks) phi =
    let behind = game_of_side universal ks in
    ap₂ ◌&&◌ (behind (after true phi)) (behind (after false phi)) ∙ not_or (meaning ks (after true phi)) (meaning ks (after false phi))
game_of_side universal (universal ∷ ks) phi =
    let behind = game_of_side universal ks in
    ap₂ ◌||◌ (behind (after true phi)) (behind (after false phi)) ∙ not_and (meaning ks (after true phi)) (meaning ks (after false phi))
