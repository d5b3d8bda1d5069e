-- What private functions promise; no public contract rests on it. Assumes nothing.
use Rattle.std.specs.Prelude.{ℕ, ◌≤◌, ◌≡◌, Bool, ◌&&◌, length, drop}
use Rattle.lines.specs.Lines.{Bytes, words, first, rest, second, same}
use Rattle.lines.specs.Shapes.{is_trimmed, p_word, form_word}

-- The first two words of a p line.
pub record OpeningRead (gates : Bool) (line : Bytes) (good : Bool) (end : ℕ) : Type 0 where
  pub right : good ≡ (is_trimmed line && same (first (words line)) p_word && same (second (words line)) (form_word gates))
  pub within : end ≤ length line
  pub others : words (drop end line) ≡ rest (rest (words line))
