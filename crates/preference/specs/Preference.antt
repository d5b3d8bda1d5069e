-- 01's 'Preferences': the value that is tried first (a default phase), by number. Assumes nothing.
use Rattle.std.specs.Prelude.{ℕ, zero, suc, ◌+◌, ◌/◌, ◌%◌, Bool, List, [], ◌∷◌, eqb, length, get_or}

-- A number is odd; the same says that its lowest bit is 1.
abbrev pub odd : ℕ → Bool
odd n = eqb (n % 2) 1

-- The number of ones among so many of the lowest binary digits of n: the last digit is the remainder by 2, the others are those of the half.
abbrev pub ones : ℕ → ℕ → ℕ
ones zero n = 0
ones (suc digits) n = n % 2 + ones digits (n / 2)

-- 'Entry i is 1 if the binary form of i has an odd number of ones, else 0.' A number below 256 has at most eight binary digits.
unfoldable pub parity : ℕ → Bool
parity n = odd (ones 8 n)

-- 'If no byte is lent, a fixed house table of 256 entries is used: .. preference i is then entry i mod 256': since 02's C-12 this rule.
abbrev pub house : ℕ → Bool
house i = parity (i % 256)

-- 'Preference i is the lowest bit of the lent byte at i mod length.'
unfoldable pub prefer : List ℕ → ℕ → Bool
prefer [] i = house i
prefer (b ∷ bs) i = odd (get_or (b ∷ bs) (i % length (b ∷ bs)) 0)
