-- What private functions promise. Assumes nothing.
use Rattle.std.specs.Prelude.{ℕ, ◌+◌, ◌≤◌, ◌≡◌, List, ◌++◌, ℤ, pos, nat_abs, length, take, get_or}
use Rattle.lines.specs.Lines.{Bytes}
use Rattle.writing.specs.Writing.{literal_word, word_end}

-- The bytes stand from `place` on, up to `end`, and what was there before them still does.
pub record Put (bytes : Bytes) (place : ℕ) (before : Bytes) (end : ℕ) (after : Bytes) : Type 0 where
  pub ends : end ≡ place + length bytes
  pub stands : take end after ≡ take place before ++ bytes

-- An entry and what stands behind it.
abbrev pub entry : List ℕ → ℤ → Bytes
entry names z = literal_word names z ++ word_end z

-- No literal is beyond n.
abbrev pub Known : ℕ → List ℤ → Type 0
Known n literals = (i : ℕ) → nat_abs (get_or literals i (pos 0)) ≤ n
