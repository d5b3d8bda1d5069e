-- A lent buffer after bytes were put into it from a place on.
-- Assumes nothing.
use Rattle.std.specs.Prelude.{ℕ, ◌+◌, Bool, cond, List, ◌++◌, leb, length, take, drop}

-- The part stands wholly inside the buffer.
abbrev pub fits : List ℕ → ℕ → List ℕ → Bool
fits buffer at part = leb (at + length part) (length buffer)

-- The part from `at` on, the bytes around it as found; as found whole if it does not fit.
unfoldable pub appended : List ℕ → ℕ → List ℕ → List ℕ
appended buffer at part = cond (fits buffer at part) (take at buffer ++ part ++ drop (at + length part) buffer) buffer

-- The place behind the part, or `at` if it does not fit.
unfoldable pub place_behind : List ℕ → ℕ → List ℕ → ℕ
place_behind buffer at part = cond (fits buffer at part) (at + length part) at
