-- The C function for a study: the number of its answer, or 100 plus the refusal number, as 01's door has them; 'the text's faults come before 5'.
-- Assumes nothing.
use Rattle.std.specs.Prelude.{ℕ, ◌+◌, ◌≤◌, ◌≡◌, ◌≢◌, true, false, cond, List, eqb, ℤ, length, replicate}
use Rattle.formula.specs.Formula.{work_size}
use Rattle.rounds.specs.Run.{Answer, number}
use Rattle.engine.specs.Numbers.{one_number}
use Rattle.text.specs.Reading.{Read, Result, taken, refused, text_read}
use Rattle.study_answer.specs.House.{house_study}
use Rattle.door.specs.Numbers.{Verdict}

-- The study by the house list: its answer's number, and what the work area holds afterwards.
abbrev pub study_number : List ℕ → List ℤ → List ℕ → ℕ
study_number kinds literals work = one_number (house_study kinds literals work).result.outcome.answer

abbrev pub study_left : List ℕ → List ℤ → List ℕ → List ℕ
study_left kinds literals work = (house_study kinds literals work).areas_left.work

abbrev pub study_number_back : Result → List ℕ → ℕ
study_number_back (refused number line) work = 100 + number
study_number_back (taken r) work = study_number r.kinds r.literals work

abbrev pub study_work_back : Result → List ℕ → List ℕ
study_work_back (refused number line) work = work
study_work_back (taken r) work = study_left r.kinds r.literals work

unfoldable pub study_answer : List ℕ → List ℕ → ℕ
study_answer text work = study_number_back (text_read text) work

unfoldable pub study_work : List ℕ → List ℕ → List ℕ
study_work text work = study_work_back (text_read text) work

-- What NumbersRight says of a run, of a study.
pub record StudyNumbersRight (text work : List ℕ) : Type 0 where
  -- '100 plus the refusal number .. the text's faults come before 5': a text that is refused has one of the numbers 109 to 112 and 114.
  pub of_text : (n line : ℕ) → text_read text ≡ refused n line → (study_answer text work ≡ 100 + n) × (9 ≤ n) × (n ≤ 14) × (n ≢ 13)
  -- A text that is taken is refused for 5 alone, and else has the number of an answer.
  pub of_study : (r : Read) → text_read text ≡ taken r
      → (a : Answer) × (study_answer text work ≡ cond (eqb (length work) work_size) (number a) 105)
  -- 'Zero after an answer'; a refusal leaves it as found.
  pub zero_after : study_answer text work ≤ 4 → study_work text work ≡ replicate work_size 0
  pub as_found : 100 ≤ study_answer text work → study_work text work ≡ work
  -- 1 only if the text's formula is true, 0 only if it is false, whichever setting answered.
  pub only_true : study_answer text work ≡ 1 → Verdict text true
  pub only_false : study_answer text work ≡ 0 → Verdict text false
