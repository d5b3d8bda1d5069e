-- What 02 says of every fee, for the built-in bands and for lent ones; both fee calls promise it. Assumes nothing.
use Rattle.std.specs.Prelude.{ℕ, ◌≡◌, List}
use Rattle.engine.specs.Outcome.{Given}
use Rattle.fee.specs.Fee.{fee}
use Rattle.fee.specs.Bands.{Loads, fee_with}
use Rattle.fee.specs.BandsRight.{BandsRight, BuiltInLoaded}
use Rattle.fee.specs.Halves.{RoundedRight, FeesRounded}
use Rattle.fee.specs.Study.{StudyPays}

pub record FeesRight : Type 0 where
  -- '0 rounds cost 0.'
  pub no_rounds : (kinds : List ℕ) → fee kinds 0 ≡ 0
  pub no_rounds_with : (firsts prices kinds : List ℕ) → fee_with firsts prices kinds 0 ≡ 0
  -- 'Spent and no-room studies pay for the rounds reached; a refused one pays nothing.'
  pub studies : (g : Given) → StudyPays g
  -- 'A round costs the price of the last band that begins no later .. for every table that loading accepts.'
  pub bands : (firsts prices : List ℕ) → Loads firsts prices → BandsRight firsts prices
  -- 'The built-in bands, loaded, give C-21's fees.'
  pub built_in : BuiltInLoaded
  -- 'An exact half goes to the even cent, under lent bands too .. Every amount off the half is charged as before.'
  pub rounding : (thousandths : ℕ) → RoundedRight thousandths
  pub rounded : FeesRounded
