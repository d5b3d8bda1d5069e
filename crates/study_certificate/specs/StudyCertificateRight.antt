-- The file written of a study is accepted by the judge on the text that was read, and its claim is the study's answer and the text's value; where none is
-- written, the study's lines or 01's refusal line are said. Assumes nothing.
use Rattle.std.specs.Prelude.{ℕ, ◌≤◌, ◌≡◌, Bool, true, false, List, [], ◌⊎◌, length, replicate}
use Prim.Native.String.{String}
use Rattle.formula.specs.Formula.{work_size}
use Rattle.text.specs.Reading.{Read, taken, refused, read_as}
use Rattle.report.specs.Report.{refusal_line}
use Rattle.judgement.specs.JudgementRight.{Prints}
use Rattle.study.specs.declared.Studied.{Studied}
use Rattle.study.specs.Study.{is_verdict}
use Rattle.study.specs.StudyRight.{answer_of}
use Rattle.study_answer.specs.Printed.{lines_of}
use Rattle.study_answer.specs.AnswerRight.{Means}
use Rattle.study_certificate.specs.WitnessList.{witness_study}
use Rattle.study_certificate.specs.StudyCertificate.{written, said}

-- The study of what was read.
abbrev pub study_of : Read → Studied
study_of r = (witness_study r.kinds r.literals (replicate work_size 0)).result

-- The text was read, the study answers with this value, which is the text's, and the judge prints this line of the file.
pub record Settled (gates : Bool) (text : List ℕ) (value : Bool) (judgement : String) : Type 0 where
  pub formula : Read
  pub read_so : read_as gates text ≡ taken formula
  pub answered : (study_of formula).outcome.answer ≡ answer_of value
  pub right : Means gates text formula value
  pub accepted : Prints (read_as gates text) (written gates text) judgement
  pub silent : said gates text ≡ []

-- The study gives no verdict: nothing is written, and its lines are said.
pub record Undecided (gates : Bool) (text : List ℕ) : Type 0 where
  pub formula : Read
  pub read_so : read_as gates text ≡ taken formula
  pub answered : is_verdict (study_of formula).outcome.answer ≡ false
  pub nothing : written gates text ≡ []
  pub said_so : said gates text ≡ lines_of formula.variables formula.clauses (study_of formula)

-- The reader refuses the text: nothing is written, and that is said.
pub record Refusal (gates : Bool) (text : List ℕ) : Type 0 where
  pub number : ℕ
  pub line : ℕ
  pub read_so : read_as gates text ≡ refused number line
  pub nothing : written gates text ≡ []
  pub said_so : said gates text ≡ refusal_line number line

pub record StudyCertificateRight (gates : Bool) (text : List ℕ) : Type 0 where
  pub one_form : Settled gates text true "accepted 1\n" ⊎ Settled gates text false "accepted 0\n" ⊎ Undecided gates text ⊎ Refusal gates text
  -- A file fits 4,106 bytes, the lines fit 192.
  pub file_short : length (written gates text) ≤ 4106
  pub lines_short : length (said gates text) ≤ 192
