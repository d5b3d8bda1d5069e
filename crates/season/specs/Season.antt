-- The page over a table of studies, and what is refused. Assumes nothing.
use Rattle.std.specs.Prelude.{ℕ, suc, ◌+◌, max, ◌≡◌, cond, List, [], ◌∷◌, eqb, ltb, length, Err, Ok, Result}
use Rattle.cause.specs.declared.Cause.{Cause}
use Rattle.cause.specs.declared.Cause.TheVariants.{Studies, Answer, Fee}
use Rattle.cause.specs.Cause.{number, refused_if}
use Rattle.formula.specs.Causes.{any}
use Rattle.formula.specs.Meaning.{bit}
use Rattle.season.specs.declared.Study.{Study}
use Rattle.season.specs.declared.Sheet.{Sheet}

-- 'Sums rounds and fees': a number that each study has, added up.
abbrev pub sum : (Study → ℕ) → List Study → ℕ
sum number [] = 0
sum number (s ∷ ss) = number s + sum number ss

-- 'It counts the studies, in all and by answer.'
abbrev pub with_answer : ℕ → List Study → ℕ
with_answer k ss = sum (λ s. bit (eqb s.answer k)) ss

-- 'The largest number of rounds', 0 if there is no study.
abbrev pub most : List Study → ℕ
most [] = 0
most (s ∷ ss) = max s.rounds (most ss)

-- 'With the first study that has it': the number, from 1, of the first study with r rounds; 0 if there is no study.
abbrev pub first_with : ℕ → List Study → ℕ
first_with r [] = 0
first_with r (s ∷ ss) = cond (eqb s.rounds r) 1 (suc (first_with r ss))

abbrev pub sheet : List Study → Sheet
sheet ss = record {
  studies = length ss;
  answer_0 = with_answer 0 ss;
  answer_1 = with_answer 1 ss;
  answer_2 = with_answer 2 ss;
  answer_3 = with_answer 3 ss;
  answer_4 = with_answer 4 ss;
  rounds = sum (λ s. s.rounds) ss;
  fees = sum (λ s. s.fee) ss;
  most = most ss;
  first = first_with (most ss) ss;
}

-- 'It refuses with 23 more than 4,096 records, then with 24 an answer number above 4, then with 25 a fee over 100,000,000 cents'.
abbrev pub max_studies : ℕ
max_studies = 4096

abbrev pub max_answer : ℕ
max_answer = 4

abbrev pub max_fee : ℕ
max_fee = 100000000

-- 'Each over the whole table before the next.'
unfoldable pub summary : List Study → Result Sheet Cause
summary ss =
    refused_if (ltb max_studies (length ss)) Studies
    (refused_if (any (λ s. ltb max_answer s.answer) ss) Answer
    (refused_if (any (λ s. ltb max_fee s.fee) ss) Fee
    (Ok (sheet ss))))

-- The number of each case, 0 for a page, else the cause's; and the page, that of no study where there is none.
abbrev pub summary_number : Result Sheet Cause → ℕ
summary_number (Ok s) = 0
summary_number (Err cause) = number cause

abbrev pub summary_sheet : Result Sheet Cause → Sheet
summary_sheet (Ok s) = s
summary_sheet (Err cause) = sheet []

-- The first cause that applies, or 0.
unfoldable pub cause : List Study → ℕ
cause ss =
    cond (ltb max_studies (length ss)) 23
    (cond (any (λ s. ltb max_answer s.answer) ss) 24
    (cond (any (λ s. ltb max_fee s.fee) ss) 25 0))

-- What comes back for a table, with its number and its page.
pub record Summarized (ss : List Study) (r : Result Sheet Cause) : Type 0 where
  pub value : r ≡ summary ss
  pub numbered : summary_number r ≡ cause ss
  pub valued : summary_sheet r ≡ cond (eqb (cause ss) 0) (sheet ss) (sheet [])
