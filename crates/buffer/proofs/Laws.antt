-- The definition's two cases, as the code tests them.
-- Assumes nothing.
use mathlib.Core.Path.{◌≡◌}
use mathlib.Core.List.{List, ◌++◌}
use Prim.Native.Nat.{ℕ, ◌+◌, ◌≤◌, ◌<◌}
use lib.ListN.{length, take, drop}
use borrow.Author.Tests.{le-leb, lt-leb}
use Rattle.buffer.specs.Buffer.{appended, place_behind}

module _ (buffer : List ℕ) (at : ℕ) (part : List ℕ) (room : at + length part ≤ length buffer) where
  pub appended_fits : appended buffer at part ≡ take at buffer ++ part ++ drop (at + length part) buffer
  unfolding appended
  appended_fits = rw (le-leb (at + length part) (length buffer) room)

  pub behind_fits : place_behind buffer at part ≡ at + length part
  unfolding place_behind
  behind_fits = rw (le-leb (at + length part) (length buffer) room)

module _ (buffer : List ℕ) (at : ℕ) (part : List ℕ) (short : length buffer < at + length part) where
  pub appended_short : appended buffer at part ≡ buffer
  unfolding appended
  appended_short = rw (lt-leb (at + length part) (length buffer) short)

  pub behind_short : place_behind buffer at part ≡ at
  unfolding place_behind
  behind_short = rw (lt-leb (at + length part) (length buffer) short)
