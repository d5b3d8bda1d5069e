-- What a formula means (000, section 3): the value of the matrix under values of all unknowns, and the recursive meaning of the prefix. Assumes nothing.
use Rattle.std.specs.Prelude.{ℕ, zero, suc, Bool, true, false, not, ◌&&◌, ◌||◌, List, [], ◌∷◌, ℤ, pos, negsuc, get_or}
use Rattle.formula.specs.Formula.{Kind, existential, universal, prefix, Clause, clauses}

-- The value of a literal where the unknowns, in prefix order, have the values vs: v is the value of the unknown named v, -v its opposite.
abbrev pub literal : List Bool → ℤ → Bool
literal vs (pos zero) = false
literal vs (pos (suc v)) = get_or vs v false
literal vs (negsuc v) = not (get_or vs v false)

-- A clause is true if it has a true literal, so the empty clause is false.
abbrev pub clause : List Bool → Clause → Bool
clause vs [] = false
clause vs (z ∷ c) = literal vs z || clause vs c

-- The matrix: 'true if every clause has a true literal'; with no clauses it is true.
abbrev pub matrix : List Clause → List Bool → Bool
matrix [] vs = true
matrix (c ∷ cs) vs = clause vs c && matrix cs vs

-- What is left of a matrix once the first unknown has the value v.
abbrev pub after : Bool → (List Bool → Bool) → List Bool → Bool
after v phi vs = phi (v ∷ vs)

-- 'With no unknown left, true if every clause has a true literal. A universal unknown in front: true if both values give true.
-- An existential one: if at least one does.'
abbrev pub meaning : List Kind → (List Bool → Bool) → Bool
meaning [] phi = phi []
meaning (existential ∷ ks) phi = meaning ks (after true phi) || meaning ks (after false phi)
meaning (universal ∷ ks) phi = meaning ks (after true phi) && meaning ks (after false phi)

-- 'The verdict is this value of the whole formula.'
unfoldable pub verdict : List ℕ → List ℤ → Bool
verdict kinds literals = meaning (prefix kinds) (matrix (clauses literals))

-- '1 for true and 0 for false.'
abbrev pub bit : Bool → ℕ
bit true = 1
bit false = 0
