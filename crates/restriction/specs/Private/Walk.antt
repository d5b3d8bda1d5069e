-- The literals that are left, entry by entry as the code goes over them: what is left of each entry, by whether its clause is kept. For contracts of
-- private functions; no public contract cites it. Assumes nothing.
use Rattle.std.specs.Prelude.{ℕ, zero, suc, ◌≤◌, Bool, true, false, not, List, [], ◌∷◌, ◌++◌, leb, ℤ, pos, negsuc, nat_abs, get_or, set}
use Rattle.std.proofs.Math.Option.{Option, none, some}
use Rattle.formula.specs.Formula.{max_unknowns, Clause, clauses}
use Rattle.case_rules.specs.Restricted.{Standing, known, behind, Remains, is_true, is_false, stays, of_literal, of_clause}

-- No literal is beyond the last name that there may be.
abbrev pub Names : List ℤ → Type 0
Names literals = (i : ℕ) → nat_abs (get_or literals i (pos 0)) ≤ max_unknowns

-- Whether a literal, by its sign, is true by the values alone.
abbrev pub meets : Bool → Standing → Bool
meets negative (behind v) = false
meets false (known b) = b
meets true (known b) = not b

-- Whether something is left of the clause that entries begin with, so that it is kept.
abbrev pub is_left : Option Clause → Bool
is_left none = false
is_left (some c) = true

abbrev pub first_left : List Bool → List Clause → Bool
first_left vs [] = true
first_left vs (c ∷ cs) = is_left (of_clause vs c)

unfoldable pub stands : List Bool → List ℤ → Bool
stands vs zs = first_left vs (clauses zs)

-- Whether a name is one of the first unknowns'.
abbrev pub is_set : ℕ → ℕ → Bool
is_set zero depth = false
is_set (suc v) depth = leb (suc v) depth

-- What is left of an entry: of a clause that is kept its end, and the literals that stay.
abbrev pub literal_left : Remains → List ℤ
literal_left is_true = []
literal_left is_false = []
literal_left (stays z) = z ∷ []

abbrev pub entry_left : List Bool → Bool → ℤ → List ℤ
entry_left vs false z = []
entry_left vs true (pos zero) = pos zero ∷ []
entry_left vs true (pos (suc v)) = literal_left (of_literal vs (pos (suc v)))
entry_left vs true (negsuc v) = literal_left (of_literal vs (negsuc v))

abbrev pub left_at : List Bool → Bool → List ℤ → ℕ → List ℤ
left_at vs kept literals i = entry_left vs kept (get_or literals i (pos 0))

-- Whether the entries behind this one are of a clause that is kept.
abbrev pub kept_after : List Bool → Bool → ℤ → List ℤ → Bool
kept_after vs kept (pos zero) zs = stands vs zs
kept_after vs kept (pos (suc v)) zs = kept
kept_after vs kept (negsuc v) zs = kept

abbrev pub walked_from : List Bool → Bool → List ℤ → List ℤ
walked_from vs kept [] = []
walked_from vs kept (z ∷ zs) = entry_left vs kept z ++ walked_from vs (kept_after vs kept z zs) zs

unfoldable pub walked : List Bool → List ℤ → List ℤ
walked vs literals = walked_from vs (stands vs literals) literals

-- An entry, or none, put at a place.
abbrev pub put : List ℤ → ℕ → List ℤ → List ℤ
put [] to output = output
put (z ∷ zs) to output = set output to z
