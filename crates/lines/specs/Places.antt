-- Places in a list of bytes. Assumes nothing.
use Rattle.std.specs.Prelude.{ℕ, suc, ◌+◌, ◌-◌, ◌≤◌, ◌<◌, min, ◌≡◌, Bool, true, false, [], ◌∷◌, eqb, length, take, drop}
use Rattle.lines.specs.Lines.{Bytes, words, first, rest}

-- The number of bytes before the first b.
abbrev pub more_if_not : Bool → ℕ → ℕ
more_if_not true n = 0
more_if_not false n = suc n

abbrev pub before : ℕ → Bytes → ℕ
before b [] = 0
before b (x ∷ xs) = more_if_not (eqb x b) (before b xs)

-- The number of spaces at the front.
abbrev pub more_if : Bool → ℕ → ℕ
more_if true n = suc n
more_if false n = 0

abbrev pub spaces : Bytes → ℕ
spaces [] = 0
spaces (x ∷ xs) = more_if (eqb x 32) (spaces xs)

-- The first word at or after i stands from `start` to `end`, which the first two lines define; past the end of the line i counts as its end.
-- There is no word if `start` and `end` are equal.
pub record Next (line : Bytes) (i start end : ℕ) : Type 0 where
  pub starts : start ≡ min i (length line) + spaces (drop i line)
  pub ends : end ≡ start + before 32 (drop start line)
  pub ordered : start ≤ end
  pub within : end ≤ length line
  pub word : take (end - start) (drop start line) ≡ first (words (drop i line))
  pub others : words (drop end line) ≡ rest (words (drop i line))
  pub none : start ≡ end → words (drop i line) ≡ []
  pub some : start < end → words (drop i line) ≡ take (end - start) (drop start line) ∷ words (drop end line)
  pub onward : start < end → i < end
