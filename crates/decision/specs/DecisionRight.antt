-- What a decision says of the text, and all that `decide` promises. Assumes nothing.
use Rattle.std.specs.Prelude.{ℕ, ◌+◌, ◌<◌, ◌≡◌, ◌≢◌, Bool, true, false, List, ℤ, length, replicate}
use Rattle.std.proofs.Math.Option.{some}
use Rattle.std.proofs.Math.ListN.{get_elem?}
use Rattle.formula.specs.Formula.{max_rows, work_size}
use Rattle.formula.specs.Meaning.{verdict}
use Rattle.lines.specs.Lines.{Bytes}
use Rattle.named.specs.Names.{In}
use Rattle.text.specs.declared.Form.{Form}
use Rattle.text.specs.Reading.{Read, taken, refused, text_causes, gates_causes, kinds_after, literals_after, names_after}
use Rattle.text.specs.Form.{has_gates, form_read}
use Rattle.text.specs.GatesRight.{CircuitIs}
use Rattle.rounds.specs.Run.{Answer as RunAnswer}
use Rattle.engine.specs.declared.run.Answer.TheVariants.{False, True, Spent, Refused}
use Rattle.engine.specs.Outcome.{Areas, named}
use Rattle.study.specs.declared.Setting.{Setting}
use Rattle.study.specs.declared.Studied.{Studied}
use Rattle.study.specs.Study.{settings_of, cause}
use Rattle.study.specs.StudyRight.{LastRun}
use Rattle.decision.specs.declared.Decision.{Decision}
use Rattle.decision.specs.Deciding.{of_refusal, ending, reading, decided}

-- The text was taken, and has this value: the formula's, and of a gate list 'the value of O as the matrix under the prefix', whatever values names have
-- that the list does not bind.
pub record Value (form : Form) (text : Bytes) (value : Bool) : Type 0 where
  pub formula : Read
  pub read_so : form_read form text ≡ taken formula
  pub formula_is : verdict formula.kinds formula.literals ≡ value
  pub circuit_is : has_gates form text ≡ true → CircuitIs text value

-- The numbers of a reader's causes.
abbrev pub causes_of : Bool → List ℕ
causes_of false = text_causes
causes_of true = gates_causes

-- Of a text of that form, with tables of these lengths, under these settings, over areas as found.
pub record DecisionRight (form : Form) (text : Bytes) (kinds literals names : ℕ) (settings : List ℕ) (found : Areas) : Type 0 where
  -- True only if the text's value is true, false only if it is false, whatever the settings.
  pub only_true : (decided (reading form text kinds literals names) settings found).decision.answer ≡ True → Value form text true
  pub only_false : (decided (reading form text kinds literals names) settings found).decision.answer ≡ False → Value form text false
  -- A text that is refused has the reader's number and line.
  pub of_text : (n line : ℕ) → reading form text kinds literals names ≡ refused n line
      → ((decided (reading form text kinds literals names) settings found).decision ≡ of_refusal n line) × In n (causes_of (has_gates form text))
  -- A text that is taken is refused for a cause of the study, and has the answer of a run where none applies.
  pub of_study : (r : Read) → reading form text kinds literals names ≡ taken r → cause r.kinds r.literals settings found ≢ 0
      → (decided (reading form text kinds literals names) settings found).decision.answer ≡ Refused (cause r.kinds r.literals settings found)
  pub answered : (r : Read) → reading form text kinds literals names ≡ taken r → cause r.kinds r.literals settings found ≡ 0
      → (a : RunAnswer) × ((decided (reading form text kinds literals names) settings found).decision.answer ≡ named a)
  -- With at most 256 rows a side no limit above 256 is ever spent: what is undecided then is so for want of rows.
  pub never_spent : ((i : ℕ) (s : Setting) → get_elem? (settings_of settings) i ≡ some s → max_rows < s.limit)
      → (decided (reading form text kinds literals names) settings found).decision.answer ≢ Spent
  -- An answer leaves the work area zero.
  pub area : (r : Read) → reading form text kinds literals names ≡ taken r → cause r.kinds r.literals settings found ≡ 0
      → (decided (reading form text kinds literals names) settings found).areas_left.work ≡ replicate work_size 0

-- A decision's outcome of a study, whose setting is counted from 0.
abbrev pub outcome_of : Decision → ℕ → Studied
outcome_of d place =
    record {
      outcome = record { answer = d.answer; round = d.round; universal = d.universal; existential = d.existential; opening = d.opening; block = d.block };
      setting = place;
    }

-- The run that gave the outcome: all that is promised of a run holds of it.
pub record Last (r : Read) (settings : List ℕ) (d : Decision) (exit : Areas) : Type 0 where
  pub place : ℕ
  pub placed : d.setting ≡ place + 1
  pub run : LastRun r.kinds r.literals settings (outcome_of d place) exit

-- What is decided and left, for a text of that form, the tables and the areas as they were found.
pub record Decides (form : Form) (text : Bytes) (settings kinds : List ℕ) (literals : List ℤ) (names : List ℕ) (found : Areas)
    (d : Decision) (kinds' : List ℕ) (literals' : List ℤ) (names' : List ℕ) (exit : Areas) : Type 0 where
  pub decided_so : ending d exit ≡ decided (reading form text (length kinds) (length literals) (length names)) settings found
  pub writes_kinds : kinds' ≡ kinds_after (reading form text (length kinds) (length literals) (length names)) kinds
  pub writes_literals : literals' ≡ literals_after (reading form text (length kinds) (length literals) (length names)) literals
  pub writes_names : names' ≡ names_after (reading form text (length kinds) (length literals) (length names)) names
  pub right : DecisionRight form text (length kinds) (length literals) (length names) settings found
  pub last : (r : Read) → reading form text (length kinds) (length literals) (length names) ≡ taken r
      → cause r.kinds r.literals settings found ≡ 0 → Last r settings d exit
