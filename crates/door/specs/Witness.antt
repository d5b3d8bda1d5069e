-- The C functions for witness files: the judge's number, and what it says. Assumes nothing.
use Rattle.std.specs.Prelude.{ℕ, ◌+◌, ◌≤◌, ◌≡◌, List, [], ◌∷◌, ◌⊎◌, ◌≢◌, replicate}
use Rattle.formula.specs.Formula.{work_size}
use Rattle.named.specs.Names.{In}
use Rattle.text.specs.Reading.{Read, taken, refused, text_read}
use Rattle.witness.specs.File.{record_of}
use Rattle.judgement.specs.declared.Finding.{Finding}
use Rattle.judgement.specs.declared.Finding.TheVariants.{NotBorneOut, Accepted, OtherFormula, Refused}
use Rattle.judgement.specs.Finding.{finding, left}
use Rattle.judgement.specs.JudgementRight.{IsVerdict}

-- The number of the interface.
abbrev pub version : ℕ
version = 3

-- 1 accepted, 0 not borne out, 2 not of this formula, 100 plus the number of a refusal.
abbrev pub number_of : Finding → ℕ
number_of NotBorneOut = 0
number_of (Accepted claim) = 1
number_of OtherFormula = 2
number_of (Refused number line) = 100 + number

unfoldable pub judged : List ℕ → List ℕ → List ℕ → ℕ
judged text f work = number_of (finding text f work)

-- The numbers of a refusal that is not the text's: 4, 7, 17 and 18 of the file; 4 where the claimed side has no rows in it, 5 of the work area and 8 of a
-- bit beyond the unknowns, as 01's judge has them.
abbrev pub file_numbers : List ℕ
file_numbers = 104 ∷ 105 ∷ 107 ∷ 108 ∷ 117 ∷ 118 ∷ []

pub record JudgedRight (text f work : List ℕ) : Type 0 where
  -- The text's faults come first: 100 plus one of 9 to 12 and 14.
  pub of_text : (n line : ℕ) → text_read text ≡ refused n line → (judged text f work ≡ 100 + n) × (9 ≤ n) × (n ≤ 14) × (n ≢ 13)
  -- A text that is taken: 0, 1 or 2, or one of those numbers.
  pub of_file : (r : Read) → text_read text ≡ taken r → (judged text f work ≤ 2) ⊎ In (judged text f work) file_numbers
  -- 'Zero after an answer'; where nothing is judged it stays as found.
  pub zero_after : judged text f work ≤ 1 → left text f work ≡ replicate work_size 0
  pub as_found : 2 ≤ judged text f work → left text f work ≡ work
  -- 1 only if the text's formula has the value that the file claims.
  pub only_verdict : judged text f work ≡ 1 → IsVerdict (record_of f).claim (text_read text)
