-- The two sides. Over universal rows the existential side looks for a model, over existential rows the universal side does. Every
-- definition below takes the side as two things: a flag for each unknown, true if it is the side's own, and the goal that the side wants true. Assumes nothing.
use Rattle.std.specs.Prelude.{Bool, true, false, not, List, map}
use Rattle.formula.specs.Formula.{Kind, existential, universal}

-- The side's own unknowns are those of its kind.
abbrev pub own : Kind → Kind → Bool
own existential existential = true
own existential universal = false
own universal existential = false
own universal universal = true

abbrev pub flags : Kind → List Kind → List Bool
flags side ks = map (own side) ks

-- The existential side wants every clause true; the universal side, 'for each row, at least one clause false'.
abbrev pub goal : Kind → (List Bool → Bool) → List Bool → Bool
goal existential phi vs = phi vs
goal universal phi vs = not (phi vs)
