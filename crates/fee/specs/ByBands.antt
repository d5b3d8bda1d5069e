-- What the code adds up, band by band. It serves contracts of private functions only; that it is the plain sum over the rounds is a law.
-- Assumes nothing.
use Rattle.std.specs.Prelude.{ℕ, suc, ◌+◌, ◌*◌, ◌-◌, ◌≤◌, ◌≡◌, List, [], ◌∷◌, length, get_or}
use Rattle.fee.specs.Bands.{max_bands, max_price}

-- How many of the rounds 1 to `rounds` come from a round on.
abbrev pub from_on : ℕ → ℕ → ℕ
from_on rounds first = suc rounds - first

-- The same from the first round of the next band on; past the last band none.
abbrev pub next_on : ℕ → List ℕ → ℕ
next_on rounds [] = 0
next_on rounds (first ∷ firsts) = from_on rounds first

-- A band's rounds are those from its first on, less those from the next band's first on.
abbrev pub by_bands : ℕ → List ℕ → List ℕ → ℕ
by_bands rounds [] prices = 0
by_bands rounds (f ∷ fs) [] = 0
by_bands rounds (f ∷ fs) (p ∷ ps) = (from_on rounds f - next_on rounds fs) * p + by_bands rounds fs ps

-- Two columns of one length, few and cheap enough that the sum fits 64 bits.
pub record Summable (firsts prices : List ℕ) : Type 0 where
  pub even : length firsts ≡ length prices
  pub few : length firsts ≤ max_bands
  pub cheap : (i : ℕ) → get_or prices i 0 ≤ max_price
