-- The clauses of one gate. Assumes nothing.
use Rattle.std.specs.Prelude.{List, [], ◌∷◌, ◌++◌, map, ℤ, pos, neg_ℤ}
use Rattle.formula.specs.Formula.{Clause}
use Rattle.gates.specs.declared.Function.{Function}
use Rattle.gates.specs.declared.Function.TheVariants.{And, Or, Xor}

-- A literal with each input, a clause each.
abbrev pub with_each : ℤ → List ℤ → List Clause
with_each z [] = []
with_each z (i ∷ is) = (z ∷ i ∷ []) ∷ with_each z is

abbrev pub negated : List ℤ → List ℤ
negated is = map neg_ℤ is

-- 'For `^` of s and t: -g s t, -g -s -t, g -s t, g s -t.' z is the literal g. Another number of inputs has no clauses, since no text allows it.
abbrev pub parity_clauses : ℤ → List ℤ → List Clause
parity_clauses z [] = []
parity_clauses z (s ∷ []) = []
parity_clauses z (s ∷ t ∷ []) =
    (neg_ℤ z ∷ s ∷ t ∷ []) ∷ (neg_ℤ z ∷ neg_ℤ s ∷ neg_ℤ t ∷ []) ∷ (z ∷ neg_ℤ s ∷ t ∷ []) ∷ (z ∷ s ∷ neg_ℤ t ∷ []) ∷ []
parity_clauses z (s ∷ t ∷ u ∷ is) = []

-- 'For `&` named g: -g with each input, then g with all inputs negated. For `|`: g with each input negated, then -g with all inputs.'
abbrev pub gate_clauses : Function → ℤ → List ℤ → List Clause
gate_clauses And z is = with_each (neg_ℤ z) is ++ ((z ∷ negated is) ∷ [])
gate_clauses Or z is = with_each z (negated is) ++ ((neg_ℤ z ∷ is) ∷ [])
gate_clauses Xor z is = parity_clauses z is

-- Clauses as entries, 'each clause ended by 0'.
abbrev pub flat : List Clause → List ℤ
flat [] = []
flat (c ∷ cs) = c ++ (pos 0 ∷ flat cs)
