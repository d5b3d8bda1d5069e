-- What stands in a buffer of the bytes xs that a reader had left, n being how many were counted. Assumes nothing.
use Rattle.std.specs.Prelude.{ℕ, ◌+◌, ◌≤◌, ◌≡◌, min, cond, ltb, List, length, take}
use Rattle.std.specs.declared.option.Option.{Option}
use Rattle.std.specs.Io.KnownBytes.{Consumes}

-- As many of them as there is room for, from the buffer's start.
pub record Filled (xs buf : List ℕ) (n : ℕ) : Type 0 where
  pub count : n ≡ min (length buf) (length xs)
  pub bytes : take n buf ≡ take n xs

-- The same of a text, which counts for one byte more if it goes on behind the buffer.
pub record FilledOn (xs buf : List ℕ) (n : ℕ) : Type 0 where
  pub count : n ≡ min (length buf + 1) (length xs)
  pub bytes : take n buf ≡ take (length buf) xs

-- How many of them follow a text of that length, which goes on only if it fills its room: none or one.
abbrev pub following : ℕ → ℕ → List ℕ → ℕ
following size room xs = cond (ltb size room) 0 (min 1 (length xs))

-- What a read that failed left: the known bytes that are gone stand at the buffer's start.
abbrev pub Stopped : Option (List ℕ) → Option (List ℕ) → List ℕ → Type 0
Stopped old new buf = (n : ℕ) × (n ≤ length buf) × Consumes old new (take n buf)
