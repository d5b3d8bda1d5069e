-- Forecasts worked by hand: equations by computation, rows as numbers.
-- Assumes nothing.
use Rattle.std.specs.Prelude.{ℕ, ◌≡◌, Bool, true, false, List, [], ◌∷◌, ◌++◌, ℤ, pos, negsuc, length, replicate, Result, Ok, Err}
use Rattle.cause.specs.declared.Cause.{Cause}
use Rattle.cause.specs.declared.Cause.TheVariants.{Rows, Count, StrayBit}
use Rattle.rounds.specs.Worked.{kinds_1, literals_1, kinds_12, literals_12}
use Rattle.forecast.specs.declared.Outlook.{Outlook}
use Rattle.forecast.specs.Outcome.{given, outcome}

-- Rows whose first byte alone is not 0, by its number.
abbrev pub table : List ℕ → List ℕ
table [] = []
table (b ∷ bs) = (b ∷ replicate 15 0) ++ table bs

-- Over these rows, all of them counted, with so many free existential rows behind them.
abbrev pub foreseen : List ℕ → List ℤ → List ℕ → List ℕ → ℕ → Result Outlook Cause
foreseen kinds literals A S free =
    outcome (given kinds literals (table A) (length A) (table (S ++ replicate free 0)) (length S))

-- So many copies over A and over S, and whether they fit.
abbrev pub needs : ℕ → ℕ → Bool → Result Outlook Cause
needs over_universal over_existential fits = Ok (record { over_universal = over_universal; over_existential = over_existential; fits = fits })

-- 01's K1 and K12 stand with the runs; 'K2 prefix `e 2 0`, `a 1 0`'.
abbrev pub kinds_2 : List ℕ
kinds_2 = 0 ∷ 1 ∷ []

abbrev pub literals_2 : List ℤ
literals_2 = pos 2 ∷ pos 1 ∷ pos 0 ∷ negsuc 1 ∷ negsuc 0 ∷ pos 0 ∷ []

pub record Examples : Type 0 where
  -- The universal unknown stands in front: two copies of the existential one, one of its own.
  pub k1 : foreseen kinds_1 literals_1 (0 ∷ 1 ∷ []) (1 ∷ 0 ∷ []) 0 ≡ needs 2 1 false
  pub k2 : foreseen kinds_2 literals_2 (0 ∷ 1 ∷ []) (1 ∷ 0 ∷ []) 0 ≡ needs 1 2 false
  pub k12 : foreseen kinds_12 literals_12 (2 ∷ 0 ∷ 1 ∷ []) (2 ∷ 3 ∷ 1 ∷ 0 ∷ []) 3 ≡ needs 5 3 true
  -- Repeats make no copies, and still count for the room.
  pub k12_repeats : foreseen kinds_12 literals_12 (2 ∷ 0 ∷ 2 ∷ []) (2 ∷ 2 ∷ 2 ∷ 0 ∷ []) 2 ≡ needs 3 2 false
  -- No rows, no copies, and they fit: here in one row a side, counts 0.
  pub none_counted : outcome (given kinds_1 literals_1 (table (0 ∷ [])) 0 (table (0 ∷ [])) 0) ≡ needs 0 0 true
  -- Two existential rows lent and one counted: one universal row fits, two don't.
  pub one_fits : foreseen kinds_1 literals_1 (0 ∷ []) (1 ∷ []) 1 ≡ needs 1 1 true
  pub two_do_not : foreseen kinds_1 literals_1 (0 ∷ 1 ∷ []) (1 ∷ []) 1 ≡ needs 2 1 false
  -- No unknown has no copies.
  pub no_unknowns : foreseen [] [] (0 ∷ []) (0 ∷ []) 1 ≡ needs 0 0 true
  -- Each cause over both tables before the next: a bad length of S before a bad count of A, and a bad count of S before a stray bit of A.
  pub lengths_first : outcome (given kinds_1 literals_1 (table (0 ∷ [])) 2 (0 ∷ []) 0) ≡ Err Rows
  pub counts_next : outcome (given kinds_1 literals_1 (table (2 ∷ [])) 1 (table (0 ∷ [])) 2) ≡ Err Count
  pub then_bits : foreseen kinds_1 literals_1 (0 ∷ []) (2 ∷ []) 0 ≡ Err StrayBit
  -- Each side's rows have its own unknowns' bits: here K1's kinds and one universal unknown more.
  pub own_bits : foreseen (1 ∷ 1 ∷ 0 ∷ []) [] (2 ∷ []) (1 ∷ []) 1 ≡ needs 1 2 true
  pub others_bits : foreseen (1 ∷ 1 ∷ 0 ∷ []) [] (1 ∷ []) (2 ∷ []) 1 ≡ Err StrayBit
  -- Bits at or past a count are not looked at.
  pub past_the_count : outcome (given kinds_1 literals_1 (table (0 ∷ 2 ∷ [])) 1 (table (0 ∷ 2 ∷ [])) 1) ≡ needs 1 1 true
