-- What `decide` returns and leaves, for everything that is lent: the text is read, and the formula read is studied under the settings. Assumes nothing.
use Rattle.std.specs.Prelude.{ℕ, ◌+◌, List, ◌++◌, length, take, drop, replicate}
use Rattle.formula.specs.Formula.{work_size}
use Rattle.lines.specs.Lines.{Bytes}
use Rattle.text.specs.declared.Form.{Form}
use Rattle.text.specs.Reading.{Read, Result, taken, refused, scan, result_of}
use Rattle.text.specs.Form.{has_gates}
use Rattle.engine.specs.declared.run.Answer.TheVariants.{Refused}
use Rattle.engine.specs.Outcome.{Areas}
use Rattle.study.specs.declared.Studied.{Studied}
use Rattle.study.specs.Study.{studied}
use Rattle.decision.specs.declared.Decision.{Decision}

-- What a text of that form gives, with tables of these lengths lent.
abbrev pub reading : Form → Bytes → ℕ → ℕ → ℕ → Result
reading form text kinds literals names = result_of (scan (has_gates form text) text kinds literals names)

-- Of a text that is refused, the number and the line.
abbrev pub of_refusal : ℕ → ℕ → Decision
of_refusal number line =
    record {
      answer = Refused number;
      round = 0;
      universal = 0;
      existential = 0;
      opening = replicate 16 0;
      block = 0;
      setting = 0;
      line = line;
      unknowns = 0;
      entries = 0;
      variables = 0;
      clauses = 0;
    }

-- Of a text that is taken, what the study returned, its setting counted from 1, and what was read.
abbrev pub of_study : ℕ → ℕ → ℕ → ℕ → Studied → Decision
of_study unknowns entries variables clauses s =
    record {
      answer = s.outcome.answer;
      round = s.outcome.round;
      universal = s.outcome.universal;
      existential = s.outcome.existential;
      opening = s.outcome.opening;
      block = s.outcome.block;
      setting = s.setting + 1;
      line = 0;
      unknowns = unknowns;
      entries = entries;
      variables = variables;
      clauses = clauses;
    }

-- The decision, and what is left in the areas.
pub record Ending : Type 0 where
  pub decision : Decision
  pub areas_left : Areas

abbrev pub ending : Decision → Areas → Ending
ending d a = record { decision = d; areas_left = a }

abbrev pub of_formula : Read → List ℕ → Areas → Ending
of_formula r settings found =
    let s = studied r.kinds r.literals settings found in
    ending (of_study (length r.kinds) (length r.literals) r.variables r.clauses s.result) s.areas_left

-- A text that is refused leaves the areas as found.
abbrev pub decided : Result → List ℕ → Areas → Ending
decided (refused number line) settings found = ending (of_refusal number line) found
decided (taken r) settings found = of_formula r settings found

-- Where a text stands in an area, the work area is the front of it once the text is read, and all behind it stays as found.
abbrev pub front : Bytes → Bytes
front area = take work_size area

abbrev pub area_after : Result → List ℕ → Areas → Bytes → Bytes
area_after result settings found area = (decided result settings found).areas_left.work ++ drop work_size area
