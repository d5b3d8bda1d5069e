-- The file that is written of a decision is accepted by the judge on the text that was read, with the decision's answer as its claim, if no setting trims.
-- The rows of a trimmed run belong to the trimmed formula (02, C-13), and the judge is given the lent text. Assumes nothing.
use Rattle.std.specs.Prelude.{ℕ, ◌≤◌, ◌≡◌, false, List, [], ◌∷◌, length}
use Prim.Native.String.{String}
use Rattle.lines.specs.Lines.{Bytes}
use Rattle.text.specs.declared.Form.{Form}
use Rattle.text.specs.Reading.{Read, taken}
use Rattle.text.specs.Form.{form_read}
use Rattle.engine.specs.declared.run.Answer.TheVariants.{False, True}
use Rattle.engine.specs.Outcome.{Areas}
use Rattle.judgement.specs.JudgementRight.{Prints}
use Rattle.study.specs.declared.Setting.{Setting}
use Rattle.study.specs.Study.{settings_of, cause, is_verdict}
use Rattle.decision.specs.Deciding.{Ending, decided}
use Rattle.witness_writing.specs.WitnessFile.{decision_file}

-- No setting trims.
abbrev pub Untrimmed : List Setting → Type 0
Untrimmed [] = Unit {0}
Untrimmed (s ∷ rest) = (s.trim ≡ 0) × Untrimmed rest

-- The judge prints this line of the file, which fits 4,106 bytes.
pub record Accepted (form : Form) (text file : Bytes) (line : String) : Type 0 where
  pub accepted : Prints (form_read form text) file line
  pub short : length file ≤ 4106

-- The file of a decision over the areas that it has left.
abbrev pub file_left : Ending → Bytes
file_left e = decision_file e.decision e.areas_left.universal_rows e.areas_left.existential_rows

-- Of a text of that form that is decided under these settings, over areas as found.
pub record Written (form : Form) (text : Bytes) (settings : List ℕ) (found : Areas) : Type 0 where
  -- Where no setting trims and no cause applies, the judge accepts the file with the decision's answer as its claim ..
  pub if_true : (r : Read) → form_read form text ≡ taken r → Untrimmed (settings_of settings) → cause r.kinds r.literals settings found ≡ 0
      → (decided (form_read form text) settings found).decision.answer ≡ True
      → Accepted form text (file_left (decided (form_read form text) settings found)) "accepted 1\n"
  pub if_false : (r : Read) → form_read form text ≡ taken r → Untrimmed (settings_of settings) → cause r.kinds r.literals settings found ≡ 0
      → (decided (form_read form text) settings found).decision.answer ≡ False
      → Accepted form text (file_left (decided (form_read form text) settings found)) "accepted 0\n"
  -- .. and without a verdict there is none.
  pub nothing : is_verdict (decided (form_read form text) settings found).decision.answer ≡ false
      → file_left (decided (form_read form text) settings found) ≡ []

abbrev pub WitnessRight : Type 0
WitnessRight = (form : Form) (text : Bytes) (settings : List ℕ) (found : Areas) → Written form text settings found
