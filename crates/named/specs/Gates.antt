-- A list of gates by its names: 'The meaning takes the value of O as the matrix under the prefix.' Assumes nothing.
use Rattle.std.specs.Prelude.{ℕ, Bool, true, false, not, ◌&&◌, ◌||◌, List, [], ◌∷◌, ◌++◌, map, ℤ, pos}
use Rattle.formula.specs.Formula.{Clause}
use Rattle.gates.specs.declared.Function.{Function}
use Rattle.gates.specs.declared.Function.TheVariants.{And, Or, Xor}
use Rattle.gates.specs.Clauses.{gate_clauses}
use Rattle.named.specs.Named.{Values, with_value, by_name}

-- A gate: what it computes, its name, its inputs, which are literals by name.
pub record Gate : Type 0 where
  pub function : Function
  pub name : ℕ
  pub inputs : List ℤ

abbrev pub all_of : List Bool → Bool
all_of [] = true
all_of (b ∷ bs) = b && all_of bs

abbrev pub any_of : List Bool → Bool
any_of [] = false
any_of (b ∷ bs) = b || any_of bs

abbrev pub differ : Bool → Bool → Bool
differ true b = not b
differ false b = b

abbrev pub odd_of : List Bool → Bool
odd_of [] = false
odd_of (b ∷ bs) = differ b (odd_of bs)

-- `&`, `|` and `^`. 'No inputs make `&` true and `|` false.'
abbrev pub value_of : Function → List Bool → Bool
value_of And bs = all_of bs
value_of Or bs = any_of bs
value_of Xor bs = odd_of bs

-- The value of a gate where names have the values g.
abbrev pub gate_value : Gate → Values → Bool
gate_value gate g = value_of gate.function (map (by_name g) gate.inputs)

-- The values with those that the gates give to their names, in the order of the lines.
abbrev pub run_gates : List Gate → Values → Values
run_gates [] g = g
run_gates (gate ∷ gates) g = run_gates gates (with_value gate.name (gate_value gate g) g)

-- The value of O.
abbrev pub circuit : List Gate → ℤ → Values → Bool
circuit gates o g = by_name (run_gates gates g) o

-- The clauses of the gates, in the order of the lines; 'last comes O alone'.
abbrev pub clauses_of : List Gate → ℤ → List Clause
clauses_of [] o = (o ∷ []) ∷ []
clauses_of (gate ∷ gates) o = gate_clauses gate.function (pos gate.name) gate.inputs ++ clauses_of gates o

abbrev pub names_of : List Gate → List ℕ
names_of [] = []
names_of (gate ∷ gates) = gate.name ∷ names_of gates
