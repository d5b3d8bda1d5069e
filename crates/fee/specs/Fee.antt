-- The study fee (02, C-21, its rounding C-23): what the rounds cost, what the changes of kind add to it, and what is answered.
-- Assumes nothing.
use Rattle.std.specs.Prelude.{ℕ, zero, suc, ◌+◌, ◌*◌, ◌≡◌, cond, List, [], ◌∷◌, eqb, leb, Err, Ok, Result}
use Rattle.cause.specs.declared.Cause.{Cause}
use Rattle.cause.specs.Cause.{told, unless_cause}
use Rattle.formula.specs.Causes.{cause_1}
use Rattle.fee.specs.Rounding.{nearest_even}

-- 'Rounds 1 to 8 at 400 cents, 9 to 64 at 250, later ones at 120.'
unfoldable pub price : ℕ → ℕ
price round = cond (leb round 8) 400 (cond (leb round 64) 250 120)

-- 'Studies are charged to the venue by round': the prices of the rounds 1 to `rounds`, added up.
abbrev pub total : (ℕ → ℕ) → ℕ → ℕ
total price zero = 0
total price (suc rounds) = total price rounds + price (suc rounds)

-- 'Each change of kind in the prefix': the neighbours that differ.
abbrev pub changes : List ℕ → ℕ
changes [] = 0
changes (k ∷ []) = 0
changes (k ∷ l ∷ kinds) = cond (eqb k l) 0 1 + changes (l ∷ kinds)

-- 'The sum rises by 15 thousandths for each change': of the sum itself, in thousandths of a cent.
abbrev pub risen : ℕ → ℕ → ℕ
risen sum changes = sum * (1000 + 15 * changes)

-- 'The sum rises .. and is rounded once to a cent.'
unfoldable pub fee_on : ℕ → List ℕ → ℕ
fee_on sum kinds = nearest_even (risen sum (changes kinds))

-- 'The fee takes an unsigned 32-bit count of rounds and the kinds ..
abbrev pub fee : List ℕ → ℕ → ℕ
fee kinds rounds = fee_on (total price rounds) kinds

-- .. to which 1 applies.' The cause, or 0.
abbrev pub cause : List ℕ → ℕ
cause kinds = cond (cause_1 kinds) 1 0

-- What is answered: a refusal with its cause carries no fee.
abbrev pub answer : ℕ → ℕ → Result ℕ Cause
answer n fee = unless_cause n fee

unfoldable pub charged : List ℕ → ℕ → Result ℕ Cause
charged kinds rounds = answer (cause kinds) (fee kinds rounds)

-- The number of each case, 0 for a fee, else the cause's; and the cents that it charges.
abbrev pub number : Result ℕ Cause → ℕ
number charge = told charge

abbrev pub cents : Result ℕ Cause → ℕ
cents (Ok amount) = amount
cents (Err cause) = 0

-- What is answered for rounds and kinds, with its number and its cents.
pub record Charged (kinds : List ℕ) (rounds : ℕ) (r : Result ℕ Cause) : Type 0 where
  pub value : r ≡ charged kinds rounds
  pub numbered : number r ≡ cause kinds
  pub amount : cents r ≡ cond (cause_1 kinds) 0 (fee kinds rounds)
