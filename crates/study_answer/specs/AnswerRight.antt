-- What a study's printed lines say of the text or gate list that was read. Assumes nothing.
use Rattle.std.specs.Prelude.{ℕ, ◌≤◌, ◌≡◌, Bool, true, false, List, ◌⊎◌, ℤ, length, replicate}
use Rattle.formula.specs.Formula.{work_size}
use Rattle.formula.specs.Meaning.{verdict}
use Rattle.text.specs.Reading.{Read, taken, refused, read_as}
use Rattle.text.specs.GatesRight.{CircuitIs}
use Rattle.report.specs.Report.{refusal_line}
use Rattle.answer.specs.AnswerRight.{Begins}
use Rattle.study.specs.StudyRight.{StudyRight}
use Rattle.study_answer.specs.House.{house_list, own_areas, house_study, Answered}
use Rattle.study_answer.specs.Printed.{lines_of, printed}

-- The study of a formula, from a work area of zeros: it answers, and true or false only if that is the verdict.
pub record Settles (kinds : List ℕ) (literals : List ℤ) : Type 0 where
  pub answered : Answered (house_study kinds literals (replicate work_size 0)).result
  pub right : StudyRight kinds literals house_list (own_areas (replicate work_size 0))

-- The reader refused the text with number n at this line, and that is what is printed.
pub record Refusal (gates : Bool) (text : List ℕ) : Type 0 where
  pub n : ℕ
  pub line : ℕ
  pub read_so : read_as gates text ≡ refused n line
  pub printed_so : printed gates text ≡ refusal_line n line

-- The text was taken, and the study of its formula is what is printed, with V and C of the p line, or of a gate list the clauses made.
pub record Result (gates : Bool) (text : List ℕ) : Type 0 where
  pub formula : Read
  pub read_so : read_as gates text ≡ taken formula
  pub settles : Settles formula.kinds formula.literals
  pub printed_so : printed gates text ≡ lines_of formula.variables formula.clauses (house_study formula.kinds formula.literals (replicate work_size 0)).result

-- The value of the text: of clauses the formula's meaning; of a gate list 'the value of O as the matrix under the prefix', whatever values names have
-- that the list does not bind.
abbrev pub Means : Bool → List ℕ → Read → Bool → Type 0
Means false text r value = verdict r.kinds r.literals ≡ value
Means true text r value = CircuitIs text value

pub record StudyAnswerRight (gates : Bool) (text : List ℕ) : Type 0 where
  -- What is printed has one of these beginnings, no two of which agree, and fits 192 bytes.
  pub one_form : Begins (printed gates text) "c refused " ⊎ Begins (printed gates text) "s cnf 1 " ⊎ Begins (printed gates text) "s cnf 0 " ⊎ Begins (printed gates text) "s cnf -1 "
  pub short : length (printed gates text) ≤ 192
  -- `c refused N L` exactly for the reader's refusal.
  pub refusal : Begins (printed gates text) "c refused " → Refusal gates text
  -- `s cnf 1` only if the text's value is true, `s cnf 0` only if it is false, whichever setting answered.
  pub only_true : Begins (printed gates text) "s cnf 1 " → (r : Result gates text) × Means gates text r.formula true
  pub only_false : Begins (printed gates text) "s cnf 0 " → (r : Result gates text) × Means gates text r.formula false
  -- `s cnf -1`: no setting of the list gave a verdict.
  pub undecided : Begins (printed gates text) "s cnf -1 " → Result gates text
