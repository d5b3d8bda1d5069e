-- A formula by its names, as a text has it: a block's unknown and a literal are said by name, and values are given to names; then the positions
-- of names. Assumes nothing.
use Rattle.std.specs.Prelude.{ℕ, zero, suc, Bool, true, false, cond, not, ◌&&◌, ◌||◌, List, [], ◌∷◌, eqb, ℤ, pos, negsuc, neg_ℤ}
use Rattle.formula.specs.Formula.{Kind, existential, universal, Clause}

-- 'Names are 1 to 32,767', and so 'V is at most 32,767'. A table by name has an entry for each name, and one for 0.
abbrev pub max_variables : ℕ
max_variables = 32767

abbrev pub max_places : ℕ
max_places = 32768

-- A value for each name.
abbrev pub Values : Type 0
Values = ℕ → Bool

-- The same but for x, which has the value b.
abbrev pub with_value : ℕ → Bool → Values → Values
with_value x b g v = cond (eqb x v) b (g v)

-- The value of a literal by name: v is the value of the name v, -v its opposite.
abbrev pub by_name : Values → ℤ → Bool
by_name g (pos v) = g v
by_name g (negsuc v) = not (g (suc v))

-- A clause is true if it has a true literal, the matrix if every clause is true.
abbrev pub named_clause : Values → Clause → Bool
named_clause g [] = false
named_clause g (z ∷ c) = by_name g z || named_clause g c

abbrev pub named_matrix : List Clause → Values → Bool
named_matrix [] g = true
named_matrix (c ∷ cs) g = named_clause g c && named_matrix cs g

-- 'A universal unknown in front: true if both values give true. An existential one: if at least one does.'
abbrev pub quantify : Kind → Bool → Bool → Bool
quantify existential a b = a || b
quantify universal a b = a && b

-- The meaning of kinds and their names, in prefix order, over a matrix; names that are not among them have the values g.
abbrev pub named_meaning : List Kind → List ℕ → (Values → Bool) → Values → Bool
named_meaning [] xs phi g = phi g
named_meaning (k ∷ ks) [] phi g = phi g
named_meaning (k ∷ ks) (x ∷ xs) phi g = quantify k (named_meaning ks xs phi (with_value x true g)) (named_meaning ks xs phi (with_value x false g))

-- Whether a name stands among others.
abbrev pub among : ℕ → List ℕ → Bool
among v [] = false
among v (x ∷ xs) = eqb x v || among v xs

-- The place of a name, from k on; 0 if it is not there.
abbrev pub place_from : ℕ → ℕ → List ℕ → ℕ
place_from k v [] = 0
place_from k v (x ∷ xs) =
    let more = place_from (suc k) v xs in
    cond (eqb x v) k more

-- Positions count from 1: 'unknowns are named 1 to n by position'.
unfoldable pub position : ℕ → List ℕ → ℕ
position v names = place_from 1 v names

-- 'Literals: v or -v'; 0 ends a clause.
abbrev pub signed : Bool → ℕ → ℤ
signed true v = neg_ℤ (pos v)
signed false v = pos v

-- An entry by name, by its position: the sign stays, and 0 stays 0.
abbrev pub placed : List ℕ → ℤ → ℤ
placed names (pos zero) = pos 0
placed names (pos (suc v)) = signed false (position (suc v) names)
placed names (negsuc v) = signed true (position (suc v) names)
