-- A chain's own bands (02, C-22): what a round costs by them, what is refused of them, and the fee. The sum, the rise and the rounding are
-- those of the built-in prices.
-- Assumes nothing.
use Rattle.std.specs.Prelude.{ℕ, ◌≡◌, Bool, true, false, cond, not, ◌&&◌, ◌||◌, List, [], ◌∷◌, eqb, leb, ltb, length, get_or, Result}
use Rattle.cause.specs.declared.Cause.{Cause}
use Rattle.formula.specs.Causes.{any}
use Rattle.fee.specs.Fee.{total, fee_on, cause, answer, number, cents}

-- The limits of lent bands, 'up to 16' and 'over 100,000 cents'. In code they are constants; the contracts tie the two.
abbrev pub max_bands : ℕ
max_bands = 16

abbrev pub max_price : ℕ
max_price = 100000

-- Going through the bands, the price of the last one that begins no later than the round; `so_far` is that of the bands passed.
abbrev pub last_price : ℕ → List ℕ → List ℕ → ℕ → ℕ
last_price so_far [] prices round = so_far
last_price so_far (f ∷ firsts) [] round = so_far
last_price so_far (f ∷ firsts) (p ∷ prices) round = last_price (cond (leb f round) p so_far) firsts prices round

-- 'A round costs the price of the last band that begins no later.'
abbrev pub price_with : List ℕ → List ℕ → ℕ → ℕ
price_with firsts prices round = last_price 0 firsts prices round

-- Cause 21: 'columns of unlike length, a table of no band or over 16, or whose first band doesn't begin at round 1'.
unfoldable pub cause_21 : List ℕ → List ℕ → Bool
cause_21 firsts prices =
    not (eqb (length firsts) (length prices))
    || (eqb (length firsts) 0 || (ltb max_bands (length firsts) || not (eqb (get_or firsts 0 0) 1)))

-- Whether each first round is above the one before it.
abbrev pub rises : List ℕ → Bool
rises [] = true
rises (f ∷ []) = true
rises (f ∷ g ∷ firsts) = ltb f g && rises (g ∷ firsts)

-- Cause 22: 'bands whose first rounds don't rise or a price over 100,000 cents'.
unfoldable pub cause_22 : List ℕ → List ℕ → Bool
cause_22 firsts prices = not (rises firsts) || any (ltb max_price) prices

-- 'Each fee call with columns refuses, before 1, with 21 .., then with 22': the first cause that applies, or 0.
abbrev pub cause_with : List ℕ → List ℕ → List ℕ → ℕ
cause_with firsts prices kinds = cond (cause_21 firsts prices) 21 (cond (cause_22 firsts prices) 22 (cause kinds))

-- What loading accepts.
pub record Loads (firsts prices : List ℕ) : Type 0 where
  pub no_21 : cause_21 firsts prices ≡ false
  pub no_22 : cause_22 firsts prices ≡ false

-- 'C-21's rise and rounding hold for every table that loading accepts.'
abbrev pub fee_with : List ℕ → List ℕ → List ℕ → ℕ → ℕ
fee_with firsts prices kinds rounds = fee_on (total (price_with firsts prices) rounds) kinds

unfoldable pub charged_with : List ℕ → List ℕ → List ℕ → ℕ → Result ℕ Cause
charged_with firsts prices kinds rounds = answer (cause_with firsts prices kinds) (fee_with firsts prices kinds rounds)

-- What is answered for bands, rounds and kinds, with its number and its cents.
pub record ChargedWith (firsts prices kinds : List ℕ) (rounds : ℕ) (r : Result ℕ Cause) : Type 0 where
  pub value : r ≡ charged_with firsts prices kinds rounds
  pub numbered : number r ≡ cause_with firsts prices kinds
  pub amount : cents r ≡ cond (eqb (cause_with firsts prices kinds) 0) (fee_with firsts prices kinds rounds) 0
