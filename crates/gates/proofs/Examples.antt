-- Worked clauses, which fix their order and that of the literals in each. Assumes nothing.
use mathlib.Core.Path.{◌≡◌, refl}
use mathlib.Core.List.{[], ◌∷◌}
use lib.IntN.{pos, negsuc}
use Rattle.gates.specs.declared.Function.TheVariants.{And, Or, Xor}
use Rattle.gates.specs.Clauses.{gate_clauses, flat}

-- `& 3 1 -2 0`: -3 1, -3 -2, 3 -1 2.
and_of_two : flat (gate_clauses And (pos 3) (pos 1 ∷ negsuc 1 ∷ []))
    ≡ negsuc 2 ∷ pos 1 ∷ pos 0 ∷ negsuc 2 ∷ negsuc 1 ∷ pos 0 ∷ pos 3 ∷ negsuc 0 ∷ pos 2 ∷ pos 0 ∷ []
and_of_two = refl

-- `| 3 1 -2 0`: 3 -1, 3 2, -3 1 -2.
or_of_two : flat (gate_clauses Or (pos 3) (pos 1 ∷ negsuc 1 ∷ []))
    ≡ pos 3 ∷ negsuc 0 ∷ pos 0 ∷ pos 3 ∷ pos 2 ∷ pos 0 ∷ negsuc 2 ∷ pos 1 ∷ negsuc 1 ∷ pos 0 ∷ []
or_of_two = refl

-- `^ 3 1 -2 0`: -3 1 -2, -3 -1 2, 3 -1 -2, 3 1 2.
xor_of_two : flat (gate_clauses Xor (pos 3) (pos 1 ∷ negsuc 1 ∷ []))
    ≡ negsuc 2 ∷ pos 1 ∷ negsuc 1 ∷ pos 0 ∷ negsuc 2 ∷ negsuc 0 ∷ pos 2 ∷ pos 0 ∷ pos 3 ∷ negsuc 0 ∷ negsuc 1 ∷ pos 0 ∷ pos 3 ∷ pos 1 ∷ pos 2 ∷ pos 0 ∷ []
xor_of_two = refl

-- 'No inputs make `&` true and `|` false.'
and_of_none : flat (gate_clauses And (pos 3) []) ≡ pos 3 ∷ pos 0 ∷ []
and_of_none = refl

or_of_none : flat (gate_clauses Or (pos 3) []) ≡ negsuc 2 ∷ pos 0 ∷ []
or_of_none = refl
