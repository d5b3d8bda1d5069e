-- What holds of every table of bands that loading accepts, and of the built-in bands (02, C-22). Assumes nothing.
use Rattle.std.specs.Prelude.{ℕ, ◌≤◌, ◌<◌, ◌≡◌, List, [], ◌∷◌, length, get_or}
use Rattle.fee.specs.Fee.{price, total, charged}
use Rattle.fee.specs.Bands.{max_price, price_with, Loads, charged_with}
use Rattle.fee.specs.ByBands.{by_bands}

-- 'The last band that begins no later' than the round: it has begun, every band after it begins later, and the round costs its price.
pub record LastBegun (firsts prices : List ℕ) (round cost : ℕ) : Type 0 where
  pub place : ℕ
  pub in_table : place < length firsts
  pub begun : get_or firsts place 0 ≤ round
  pub last : (j : ℕ) → place < j → j < length firsts → round < get_or firsts j 0
  pub costs : cost ≡ get_or prices place 0

pub record BandsRight (firsts prices : List ℕ) : Type 0 where
  -- Each round from 1 on has such a band ..
  pub has_band : (round : ℕ) → 1 ≤ round → LastBegun firsts prices round (price_with firsts prices round)
  -- .. and costs no more than a price may.
  pub at_most : (round : ℕ) → price_with firsts prices round ≤ max_price
  -- What the code adds up band by band is the plain sum over the rounds.
  pub plain_sum : (rounds : ℕ) → by_bands rounds firsts prices ≡ total (price_with firsts prices) rounds

abbrev pub built_in_firsts : List ℕ
built_in_firsts = 1 ∷ 9 ∷ 65 ∷ []

abbrev pub built_in_prices : List ℕ
built_in_prices = 400 ∷ 250 ∷ 120 ∷ []

-- 'The built-in bands, loaded, give C-21's fees': round by round, and for all rounds and kinds, refused kinds included.
pub record BuiltInLoaded : Type 0 where
  pub loads : Loads built_in_firsts built_in_prices
  pub same_price : (round : ℕ) → 1 ≤ round → price_with built_in_firsts built_in_prices round ≡ price round
  pub same_charge : (kinds : List ℕ) (rounds : ℕ) → charged_with built_in_firsts built_in_prices kinds rounds ≡ charged kinds rounds
