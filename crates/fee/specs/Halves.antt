-- What the new sheet changes (02, C-23): exact halves alone. Assumes nothing.
use Rattle.std.specs.Prelude.{ℕ, suc, ◌+◌, ◌*◌, ◌%◌, ◌≤◌, ◌≡◌, List}
use Rattle.fee.specs.Rounding.{nearest_even}
use Rattle.fee.specs.HalfUp.{half_up}
use Rattle.fee.specs.Fee.{price, total, changes, risen, fee}
use Rattle.fee.specs.Bands.{price_with, fee_with}

-- An amount in thousandths of a cent is an exact half.
abbrev pub OnHalf : ℕ → Type 0
OnHalf x = x % 1000 ≡ 500

-- The amount lies within half a cent of so many cents.
pub record Within (x cents : ℕ) : Type 0 where
  pub not_over : 1000 * cents ≤ x + 500
  pub not_under : x ≤ 1000 * cents + 500

pub record RoundedRight (x : ℕ) : Type 0 where
  -- 'Every amount off the half is charged as before.'
  pub off_half : (OnHalf x → ⊥) → nearest_even x ≡ half_up x
  -- On the half the cents are even: those of before, or one less, the latter exactly if those of before are odd.
  pub on_half : OnHalf x → nearest_even x % 2 ≡ 0
  pub as_before : OnHalf x → half_up x % 2 ≡ 0 → nearest_even x ≡ half_up x
  pub one_less : OnHalf x → half_up x % 2 ≡ 1 → suc (nearest_even x) ≡ half_up x
  -- What the rule means: the cents are within half a cent of the amount, and where others are too, they are the even ones.
  pub near : Within x (nearest_even x)
  pub of_two : (others : ℕ) → Within x others → (others ≡ nearest_even x → ⊥) → nearest_even x % 2 ≡ 0

-- So of the fees, by the built-in prices and by lent bands, for all rounds, kinds and columns.
pub record FeesRounded : Type 0 where
  pub built_in : (kinds : List ℕ) (rounds : ℕ) → (OnHalf (risen (total price rounds) (changes kinds)) → ⊥)
      → fee kinds rounds ≡ half_up (risen (total price rounds) (changes kinds))
  pub by_bands : (firsts prices kinds : List ℕ) (rounds : ℕ) → (OnHalf (risen (total (price_with firsts prices) rounds) (changes kinds)) → ⊥)
      → fee_with firsts prices kinds rounds ≡ half_up (risen (total (price_with firsts prices) rounds) (changes kinds))
  pub built_in_half : (kinds : List ℕ) (rounds : ℕ) → OnHalf (risen (total price rounds) (changes kinds)) → fee kinds rounds % 2 ≡ 0
  pub by_bands_half : (firsts prices kinds : List ℕ) (rounds : ℕ) → OnHalf (risen (total (price_with firsts prices) rounds) (changes kinds))
      → fee_with firsts prices kinds rounds % 2 ≡ 0
