-- What private functions ask for and promise: over a reading as the code has it, and tables with the formula at their front. Assumes nothing.
use Rattle.std.specs.Prelude.{ℕ, ◌≤◌, ◌<◌, ◌≡◌, List, ℤ, length, take, Ok, Err}
use Rattle.cause.specs.Cause.{number}
use Rattle.text.specs.Reading.{Reading}
use Rattle.engine.specs.Outcome.{Areas}
use Rattle.study.specs.declared.Studied.{Studied}
use Rattle.study.specs.StudyRight.{Studies}
use Rattle.decision.specs.declared.Decision.{Decision}
use Rattle.decision.specs.Deciding.{of_refusal, of_study}

-- The formula is there, and the numbers fit 32 bits.
pub record Usable (unknowns entries variables clauses : ℕ) (kinds : List ℕ) (literals : List ℤ) : Type 0 where
  pub kinds_there : unknowns ≤ length kinds
  pub literals_there : entries ≤ length literals
  pub variables_fit : variables < 4294967296
  pub clauses_fit : clauses < 4294967296

abbrev pub ReadUsable : Reading → List ℕ → List ℤ → Type 0
ReadUsable (Err refusal) kinds literals = refusal.line < 4294967296
ReadUsable (Ok t) kinds literals = Usable t.unknowns t.entries t.variables t.clauses kinds literals

-- The counts and the setting fit 32 bits.
pub record Small (r : Studied) : Type 0 where
  pub universal : r.outcome.universal < 4294967296
  pub existential : r.outcome.existential < 4294967296
  pub setting : r.setting < 4294967295

-- A refusal is handed on; a formula is studied.
pub record Refusing (number line : ℕ) (found : Areas) (d : Decision) (exit : Areas) : Type 0 where
  pub decision_so : d ≡ of_refusal number line
  pub unmoved : exit ≡ found

pub record Studying (unknowns entries variables clauses : ℕ) (kinds : List ℕ) (literals : List ℤ) (settings : List ℕ) (found : Areas) (d : Decision) (exit : Areas) : Type 0 where
  pub result : Studied
  pub decision_so : d ≡ of_study unknowns entries variables clauses result
  pub studies : Studies kinds literals settings found result exit

abbrev pub ReadDecides : Reading → List ℕ → List ℤ → List ℕ → Areas → Decision → Areas → Type 0
ReadDecides (Err refusal) kinds literals settings found d exit = Refusing (number refusal.cause) refusal.line found d exit
ReadDecides (Ok t) kinds literals settings found d exit =
    Studying t.unknowns t.entries t.variables t.clauses (take t.unknowns kinds) (take t.entries literals) settings found d exit
