-- What is written of all that can be lent: the text of a formula that is accepted and has a name for each unknown, else nothing. Assumes nothing.
use Rattle.std.specs.Prelude.{ℕ, cond, ◌&&◌, List, [], eqb, ℤ, length}
use Rattle.formula.specs.Causes.{checked, number}
use Rattle.lines.specs.Lines.{Bytes}
use Rattle.writing.specs.Writing.{written}

unfoldable pub output : List ℕ → List ℤ → List ℕ → ℕ → Bytes
output kinds literals names variables =
    cond (eqb (length names) (length kinds) && eqb (number (checked kinds literals)) 0) (written kinds literals names variables) []
