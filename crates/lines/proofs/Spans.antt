-- How many bytes stand before a byte, and how many spaces at the front, at a place in a list. Assumes nothing.
use Prim.Native.Nat.{ℕ, suc, ◌≤◌, zero-le, suc-le-suc}
use mathlib.Core.Bool.{Bool, true, false}
use mathlib.Core.List.{[], ◌∷◌}
use lib.Dec.{eqb}
use lib.ListN.{length}
use Rattle.lines.specs.Lines.{Bytes}
use Rattle.lines.specs.Places.{before, more_if_not, spaces, more_if}

pub before_le : (b : ℕ) (l : Bytes) → before b l ≤ length l
before_le b [] = zero-le
before_le b (x ∷ xs) = go (eqb x b) (before_le b xs)
  where
    go : (t : Bool) → before b xs ≤ length xs → more_if_not t (before b xs) ≤ suc (length xs)
    go true ih = zero-le
    go false ih = suc-le-suc ih

pub spaces_le : (l : Bytes) → spaces l ≤ length l
spaces_le [] = zero-le
spaces_le (x ∷ xs) = go (eqb x 32) (spaces_le xs)
  where
    go : (t : Bool) → spaces xs ≤ length xs → more_if t (spaces xs) ≤ suc (length xs)
    go true ih = suc-le-suc ih
    go false ih = zero-le
