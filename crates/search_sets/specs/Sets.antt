-- A table of sets of positions, two words each, after each public function: position p is bit p mod 64 of word p div 64 of a set.
-- Assumes nothing.
use Rattle.std.specs.Prelude.{ℕ, zero, suc, ◌+◌, ◌-◌, ◌*◌, ◌/◌, ◌%◌, ◌^◌, min, Bool, false, ◌&&◌, cond, List, [], ◌∷◌, eqb, ltb, length, get_or, set, drop}
use Rattle.std.specs.Int.Bits.{bit_and, bit_or}
use Rattle.formula.specs.Formula.{max_unknowns, max_rows}
use Rattle.preference.specs.Preference.{odd}
use Rattle.codes.specs.Codes.{row_position, clause_of}

-- ---- sets at places that are there

-- The set at `to` becomes that of two words.
unfoldable pub words_put : List ℕ → ℕ → ℕ → ℕ → List ℕ
words_put s to low high = set (set s (2 * to) low) (2 * to + 1) high

-- It takes in that of two words.
unfoldable pub words_joined : List ℕ → ℕ → ℕ → ℕ → List ℕ
words_joined s to low high = words_put s to (bit_or (get_or s (2 * to) 0) low) (bit_or (get_or s (2 * to + 1) 0) high)

-- It takes in that at `from`.
unfoldable pub set_joined : List ℕ → ℕ → ℕ → List ℕ
set_joined s to from = words_joined s to (get_or s (2 * from) 0) (get_or s (2 * from + 1) 0)

-- It keeps what two words have.
unfoldable pub words_met : List ℕ → ℕ → ℕ → ℕ → List ℕ
words_met s to low high = words_put s to (bit_and (get_or s (2 * to) 0) low) (bit_and (get_or s (2 * to + 1) 0) high)

-- It takes in the position p.
unfoldable pub bit_added : List ℕ → ℕ → ℕ → List ℕ
bit_added s to p = set s (2 * to + p / 64) (bit_or (get_or s (2 * to + p / 64) 0) (2 ^ (p % 64)))

-- The set at `of` has the position p.
unfoldable pub bit_at : List ℕ → ℕ → ℕ → Bool
bit_at s of p = odd (get_or s (2 * of + p / 64) 0 / 2 ^ (p % 64))

-- A word whose lowest k bits are ones.
unfoldable pub ones : ℕ → ℕ
ones k = 2 ^ min k 64 - 1

-- A change for each of the m positions from k on, one after the other.
abbrev pub each_from : (List ℕ → ℕ → List ℕ) → ℕ → ℕ → List ℕ → List ℕ
each_from change k zero s = s
each_from change k (suc m) s = change (each_from change k m s) (k + m)

-- The set at p keeps the positions below k.
abbrev pub cut_at : ℕ → List ℕ → ℕ → List ℕ
cut_at k s p = words_met s p (ones k) (ones (k - 64))

-- The set at `of` takes in the set at p if it has the position p.
abbrev pub followed : ℕ → List ℕ → ℕ → List ℕ
followed of s p = cond (bit_at s of p) (set_joined s of p) s

-- The set at `to` takes in that of the code's position, if this is another.
abbrev pub code_joined : ℕ → List ℕ → ℕ → List ℕ
code_joined to s c = cond (eqb (row_position c) to) s (set_joined s to (row_position c))

-- The same for each code in turn.
abbrev pub codes_joined : ℕ → List ℕ → List ℕ → List ℕ
codes_joined to [] s = s
codes_joined to (c ∷ cs) s = codes_joined to cs (code_joined to s c)

-- ---- any table, any numbers

-- A set for each position, and two behind them.
abbrev pub set_places : ℕ
set_places = max_unknowns + 2

-- Two words a set, and behind the sets words of which nothing is said here: two for each row, three for each position and the place behind
-- them, and eight more.
abbrev pub sets_size : ℕ
sets_size = 2 * set_places + 2 * max_rows + 3 * (max_unknowns + 1) + 8

-- A table has its size, and a set at the place.
unfoldable pub has_place : ℕ → ℕ → Bool
has_place size to = eqb size sets_size && ltb to set_places

-- Besides, another number is below its bound.
unfoldable pub numbers_fit : ℕ → ℕ → ℕ → ℕ → Bool
numbers_fit size to number bound = has_place size to && ltb number bound

-- The set at `to` takes in the set at `from`.
unfoldable pub united : List ℕ → ℕ → ℕ → List ℕ
united s to from = cond (numbers_fit (length s) to from set_places) (set_joined s to from) s

-- The set at `to` takes in the set of two words.
unfoldable pub united_words : List ℕ → ℕ → ℕ → ℕ → List ℕ
united_words s to low high = cond (has_place (length s) to) (words_joined s to low high) s

-- The set at `to` takes in the position p.
unfoldable pub added : List ℕ → ℕ → ℕ → List ℕ
added s to p = cond (numbers_fit (length s) to p max_unknowns) (bit_added s to p) s

-- Whether the set at `of` has the position p.
unfoldable pub has : List ℕ → ℕ → ℕ → Bool
has s of p = cond (numbers_fit (length s) of p max_unknowns) (bit_at s of p) false

-- The set at `to` becomes empty.
unfoldable pub emptied : List ℕ → ℕ → List ℕ
emptied s to = cond (has_place (length s) to) (words_put s to 0 0) s

-- The set at `to` becomes that of all positions.
unfoldable pub filled : List ℕ → ℕ → List ℕ
filled s to = cond (has_place (length s) to) (words_put s to (2 ^ 64 - 1) (2 ^ 64 - 1)) s

-- The sets at the places from k to n lose the positions from k on.
unfoldable pub trimmed : List ℕ → ℕ → ℕ → List ℕ
trimmed s k n = cond (numbers_fit (length s) k n (max_unknowns + 1)) (each_from (cut_at k) k (n - k) s) s

-- For each position from k to `at`, in order, that the set at `of` has by then, it takes in the set at that place.
unfoldable pub resolved : List ℕ → ℕ → ℕ → ℕ → List ℕ
resolved s of k at = cond (numbers_fit (length s) of at (max_unknowns + 1)) (each_from (followed of) k (at - k) s) s

-- The set at `to` takes in the sets of the positions, other than `to`, of the codes from `start` up to the first 0.
unfoldable pub reasons_added : List ℕ → List ℕ → ℕ → ℕ → List ℕ
reasons_added codes s start to = cond (has_place (length s) to) (codes_joined to (clause_of (drop start codes)) s) s
