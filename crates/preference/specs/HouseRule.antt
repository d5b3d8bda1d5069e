-- What 02's C-12 asks of the house rule: it is 01's entry for every number.
-- Assumes nothing.
use Rattle.std.specs.Prelude.{ℕ, ◌%◌, ◌<◌, ◌≡◌}
use Rattle.std.specs.Int.Count.{ones as all_ones}
use Rattle.preference.specs.Preference.{odd, parity, house}

-- `all_ones` is the toolchain's: the ones of the whole binary form, however long.
pub record HouseRuleRight : Type 0 where
  -- 01: 'entry i is 1 if the binary form of i has an odd number of ones'. The entry looks at eight digits, and they are all that i has.
  pub whole_form : (i : ℕ) → i < 256 → parity i ≡ odd (all_ones i)
  -- 02: 'preference i is the parity of the ones in the remainder of i by 256'.
  pub every_number : (i : ℕ) → house i ≡ odd (all_ones (i % 256))
