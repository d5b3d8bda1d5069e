-- What the printed lines say of the circuit of a gate list. Assumes nothing.
use Rattle.std.specs.Prelude.{ℕ, ◌≡◌, Bool, List, length}
use Rattle.formula.specs.Formula.{clauses}
use Rattle.text.specs.Reading.{Read, taken, gates_read, gates_causes}
use Rattle.text.specs.GatesRight.{CircuitIs}
use Rattle.answer.specs.Printed.{gates_printed}
use Rattle.answer.specs.AnswerRight.{LinesRight}

pub record GatesAnswerRight (text : List ℕ) : Type 0 where
  -- `s cnf 1 V C` only if the circuit is true under the prefix, `s cnf 0 V C` only if it is false; N one of 9 to 12, 14, 19 and 20.
  pub lines : LinesRight gates_causes (gates_read text) (λ (_ : Read) (value : Bool). CircuitIs text value) (gates_printed text)
  -- 'C being the clauses made.'
  pub made : (r : Read) → gates_read text ≡ taken r → r.clauses ≡ length (clauses r.literals)
