-- What private functions promise: over a reading as the code has it, and tables with the formula at their front. Assumes nothing.
use Rattle.std.specs.Prelude.{ℕ, ◌≤◌, ◌<◌, ◌≡◌, List, ℤ, length, take, replicate, Ok, Err}
use Rattle.cause.specs.Cause.{number}
use Rattle.formula.specs.Formula.{work_size}
use Rattle.formula.specs.Causes.{checked, sizes}
use Rattle.text.specs.Reading.{Reading}
use Rattle.report.specs.Report.{refusal_line}
use Rattle.answer.specs.Printed.{result_of}

-- The formula is there and accepted, and V and C fit 32 bits.
pub record Usable (unknowns entries variables clauses : ℕ) (kinds : List ℕ) (literals : List ℤ) : Type 0 where
  pub kinds_there : unknowns ≤ length kinds
  pub literals_there : entries ≤ length literals
  pub accepted : checked (take unknowns kinds) (take entries literals) ≡ Ok (sizes (take unknowns kinds) (take entries literals))
  pub variables_fit : variables < 4294967296
  pub clauses_fit : clauses < 4294967296

abbrev pub ReadUsable : Reading → List ℕ → List ℤ → Type 0
ReadUsable (Err refusal) kinds literals = refusal.line < 4294967296
ReadUsable (Ok t) kinds literals = Usable t.unknowns t.entries t.variables t.clauses kinds literals

abbrev pub lines_of : Reading → List ℕ → List ℤ → List ℕ
lines_of (Err refusal) kinds literals = refusal_line (number refusal.cause) refusal.line
lines_of (Ok t) kinds literals = result_of (take t.unknowns kinds) (take t.entries literals) t.variables t.clauses

abbrev pub work_after : Reading → List ℕ → List ℕ
work_after (Err refusal) work = work
work_after (Ok t) work = replicate work_size 0
