-- What the clauses of a gate list mean: 'Their verdict is that meaning', the gates being the last unknowns, existential, in the order of the
-- lines. Assumes nothing.
use Rattle.std.specs.Prelude.{ℕ, zero, suc, ◌≡◌, List, [], ◌∷◌, ◌++◌, map, ℤ, pos, negsuc, length, replicate}
use Rattle.formula.specs.Formula.{prefix}
use Rattle.formula.specs.Meaning.{verdict}
use Rattle.gates.specs.declared.Function.{Function}
use Rattle.gates.specs.declared.Function.TheVariants.{And, Or, Xor}
use Rattle.gates.specs.Clauses.{flat}
use Rattle.named.specs.Named.{Values, named_meaning, placed}
use Rattle.named.specs.Names.{In, Distinct, InAll}
use Rattle.named.specs.Gates.{Gate, circuit, clauses_of, names_of}

-- A literal has a name, which is not 0.
abbrev pub Some : ℤ → Type 0
Some (pos zero) = ⊥
Some (pos (suc v)) = Unit {0}
Some (negsuc v) = Unit {0}

-- How many inputs a gate has: `^` has two.
abbrev pub Fits : Function → List ℤ → Type 0
Fits And is = Unit {0}
Fits Or is = Unit {0}
Fits Xor is = length is ≡ 2

-- A gate list in order: each name is new, which is what 20 asks, each input is known before, which is what 19 asks.
abbrev pub Ordered : List ℕ → List Gate → Type 0
Ordered known [] = Unit {0}
Ordered known (gate ∷ gates) =
    (In gate.name known → ⊥) × Some (pos gate.name) × InAll known gate.inputs × Fits gate.function gate.inputs × Ordered (gate.name ∷ known)
    gates

abbrev pub circuit_kinds : List ℕ → List Gate → List ℕ
circuit_kinds kinds gates = kinds ++ replicate (length gates) 0

abbrev pub circuit_names : List ℕ → List Gate → List ℕ
circuit_names names gates = names ++ names_of gates

-- The verdict by position is the circuit's value under the prefix, whatever values names have that no block binds.
abbrev pub CircuitRight : List ℕ → List ℕ → List Gate → ℤ → Type 0
CircuitRight kinds names gates o =
    length kinds ≡ length names → Distinct names → Ordered names gates → InAll (circuit_names names gates) (o ∷ []) → (g : Values)
    → verdict (circuit_kinds kinds gates) (map (placed (circuit_names names gates)) (flat (clauses_of gates o))) ≡ named_meaning (prefix kinds) names
    (circuit gates o) g
