-- One row, an assignment of one side's unknowns: as its values, and as its sixteen bytes. Assumes nothing.
use Rattle.std.specs.Prelude.{ℕ, zero, suc, ◌+◌, ◌*◌, ◌/◌, ◌%◌, ◌^◌, Bool, List, [], ◌∷◌, get_or, take, drop}
pub use Rattle.formula.specs.Meaning.{bit as weight}
use Rattle.preference.specs.Preference.{odd}

-- 'Bit k (byte k div 8, weight 2^(k mod 8))' of a list of bytes. Past the end no bit is set.
unfoldable pub bit_of : List ℕ → ℕ → Bool
bit_of bytes k = odd (get_or bytes (k / 8) 0 / 2 ^ (k % 8))

-- The values of a function at 0, 1, .. and m - 1.
abbrev pub values : ℕ → (ℕ → Bool) → List Bool
values zero f = []
values (suc m) f = f zero ∷ values m (λ i. f (suc i))

-- 'Bit k is the value of the k-th unknown of that kind, from 0': the values of m unknowns.
unfoldable pub row_of : ℕ → List ℕ → List Bool
row_of m bytes = values m (bit_of bytes)

-- The number that has some values as its bits, the lowest first.
abbrev pub number : List Bool → ℕ
number [] = 0
number (v ∷ vs) = weight v + number vs * 2

-- Values as n bytes, eight to a byte; 'other bits are zero'.
abbrev pub bytes : ℕ → List Bool → List ℕ
bytes zero vs = []
bytes (suc n) vs = number (take 8 vs) ∷ bytes n (drop 8 vs)

-- 'A row is 16 bytes.'
unfoldable pub bytes_of : List Bool → List ℕ
bytes_of row = bytes 16 row
