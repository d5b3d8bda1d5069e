-- A text that a program has read into a buffer, and the length that it was found to have. Assumes nothing.
use Rattle.std.specs.Prelude.{ℕ, suc, cond, ltb, length, take, replicate}
use Rattle.lines.specs.Lines.{Bytes}
use Rattle.text.specs.Reading.{max_bytes}

-- A text of one byte more than 01 allows: like every longer one it is refused with 9 at line 0.
unfoldable pub too_long : Bytes
too_long = replicate (suc max_bytes) 0

-- The first n bytes of the buffer. A text that is longer than its buffer is never cut: a text over 65,536 bytes stands for it.
unfoldable pub offered : Bytes → ℕ → Bytes
offered buffer n = cond (ltb (length buffer) n) too_long (take n buffer)
