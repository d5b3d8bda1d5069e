-- What private functions promise; the contract of `put` rests on none of it. Assumes nothing.
use Rattle.std.specs.Prelude.{Bool, true, false, not, List, [], ◌∷◌, ◌++◌, map, ℤ, pos, neg_ℤ}
use Rattle.gates.specs.Clauses.{with_each, parity_clauses, flat}

-- A literal, or its opposite.
abbrev pub turn : Bool → ℤ → ℤ
turn true z = neg_ℤ z
turn false z = z

unfoldable pub pair_entries : ℤ → Bool → List ℤ → List ℤ
pair_entries first turned inputs = flat (with_each first (map (turn turned) inputs))

unfoldable pub long_entries : ℤ → Bool → List ℤ → List ℤ
long_entries first turned inputs = first ∷ (map (turn turned) inputs ++ (pos 0 ∷ []))

unfoldable pub gathered_entries : ℤ → ℤ → Bool → List ℤ → List ℤ
gathered_entries near far turned inputs = pair_entries near turned inputs ++ long_entries far (not turned) inputs

abbrev pub triple_entries : ℤ → ℤ → ℤ → List ℤ
triple_entries a b c = a ∷ b ∷ c ∷ pos 0 ∷ []

unfoldable pub parity_entries : ℤ → List ℤ → List ℤ
parity_entries z inputs = flat (parity_clauses z inputs)
