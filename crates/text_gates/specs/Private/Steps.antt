-- What private functions promise; no contract of a public one rests on it. Assumes nothing.
use Rattle.std.specs.Prelude.{ℕ, ◌+◌, ◌≤◌, ◌≡◌, List, ℤ, pos, nat_abs, length, get_or, take, drop, Result, Ok, Err}
use Rattle.cause.specs.declared.Cause.{Cause}
use Rattle.formula.specs.Formula.{max_clauses}
use Rattle.gates.specs.declared.Function.{Function}
use Rattle.gates.specs.declared.Function.TheVariants.{And, Or, Xor}
use Rattle.gates.specs.Clauses.{gate_clauses, flat}
use Rattle.lines.specs.Lines.{Bytes, words}
use Rattle.named.specs.Named.{max_variables}
use Rattle.named.specs.CircuitRight.{Fits}
use Rattle.text_gates.specs.GateLine.{marked, literal_of, known_cause, known_causes, inputs_of, room_limit, PutSo}

-- What is read: an input's literal, and how many inputs there are; 0 where there is a cause.
abbrev pub literal_in : Result ℤ Cause → ℤ
literal_in (Ok z) = z
literal_in (Err cause) = pos 0

abbrev pub count_in : Result ℕ Cause → ℕ
count_in (Ok n) = n
count_in (Err cause) = 0

-- An input.
pub record InputRead (P : List ℕ) (w : Bytes) (cause : ℕ) (literal : ℤ) : Type 0 where
  pub right : cause ≡ known_cause (marked P) w
  pub written : cause ≡ 0 → literal ≡ literal_of w
  pub small : nat_abs literal ≤ max_variables

-- The inputs of a gate line from i on: their first cause, their number, and themselves, if there are not too many to be kept.
pub record InputsRead (line : Bytes) (i : ℕ) (P : List ℕ) (cause count : ℕ) (I : List ℤ) : Type 0 where
  pub size : length I ≡ max_clauses
  pub right : cause ≡ known_causes (marked P) (words (drop i line))
  pub many : cause ≡ 0 → count ≡ length (inputs_of (words (drop i line)))
  pub kept : cause ≡ 0 → count ≤ max_clauses → take count I ≡ inputs_of (words (drop i line))
  pub small : (j : ℕ) → nat_abs (get_or I j (pos 0)) ≤ max_variables

-- The clauses of a gate, by the number of its inputs.
abbrev pub clause_count : Function → ℕ → ℕ
clause_count And n = n + 1
clause_count Or n = n + 1
clause_count Xor n = 4

-- The clauses of the gate v behind m entries, `made` clauses being made; its inputs are kept in I, if there are not too many.
abbrev pub GatePut : Function → ℕ → List ℤ → ℕ → ℕ → ℕ → List ℤ → ℕ → ℕ → ℕ → List ℤ → Type 0
GatePut f v I count made m L cause entries all L' =
    (is : List ℤ) → length is ≡ count → (count ≤ max_clauses → take count I ≡ is) → Fits f is
    → PutSo (room_limit (length L) (made + length (gate_clauses f (pos v) is)) (m + length (flat (gate_clauses f (pos v) is))))
    (flat (gate_clauses f (pos v) is)) (length (gate_clauses f (pos v) is)) made m L cause entries all L'
