-- Names that no block binds, read 'as existential in front of everything': a formula closed by them. Assumes nothing.
use Rattle.std.specs.Prelude.{ℕ, min, max, Bool, List, [], ◌∷◌, ◌++◌, map, ℤ, length, replicate}
use Rattle.formula.specs.Formula.{prefix, clauses}
use Rattle.named.specs.Named.{Values, named_matrix, named_meaning, placed}

-- 'By rising number': a name among rising ones. Of two names the smaller stays, the larger goes on.
abbrev pub insert : ℕ → List ℕ → List ℕ
insert v [] = v ∷ []
insert v (x ∷ xs) = min v x ∷ insert (max v x) xs

-- 'The reader is to place such names first': in front of the bound ones, each with the kind 0, existential.
abbrev pub closed_names : List ℕ → List ℕ → List ℕ
closed_names free names = free ++ names

abbrev pub closed_kinds : List ℕ → List ℕ → List ℕ
closed_kinds free kinds = replicate (length free) 0 ++ kinds

-- Entries by name become literals by position among all of these names.
abbrev pub closed_literals : List ℕ → List ℕ → List ℤ → List ℤ
closed_literals free names entries = map (placed (closed_names free names)) entries

-- The value of the text's own blocks and clauses, where names bound nowhere have the values h.
abbrev pub open_verdict : List ℕ → List ℕ → List ℤ → Values → Bool
open_verdict kinds names entries h = named_meaning (prefix kinds) names (named_matrix (clauses entries)) h
