-- What the private functions that read a text promise; no public contract rests on it. Assumes nothing.
use Rattle.std.specs.Prelude.{ℕ, ◌+◌, ◌-◌, ◌<◌, ◌≡◌, false, cond, List, [], ◌∷◌, eqb, length, take, drop, Option, Some, None, Result, Ok, Err}
use Rattle.lines.specs.Lines.{Bytes, Line, pieces}
use Rattle.season.specs.declared.Study.{Study}
use Rattle.season.specs.Text.{number, is_number, three_numbers, study, other_line}

-- Where the two spaces of a line stand.
pub record PartedAt (line : Bytes) (a b : ℕ) : Type 0 where
  pub ordered : a < b
  pub within : b < length line
  pub parts : pieces 32 line ≡ take a line ∷ take (b - (a + 1)) (drop (a + 1) line) ∷ take (length line - (b + 1)) (drop (b + 1) line) ∷ []

-- The two spaces of a line, if it has two.
abbrev pub Parted : Bytes → Option (ℕ × ℕ) → Type 0
Parted line (Some (a, b)) = PartedAt line a b
Parted line None = eqb (length (pieces 32 line)) 3 ≡ false

-- The number that a word is.
abbrev pub field : Bytes → Option ℕ
field w = cond (is_number w) (Some (number w)) None

-- The study of a line, if its pieces are three numbers.
unfoldable pub line_read : Bytes → Option Study
line_read line = cond (three_numbers (pieces 32 line)) (Some (study (pieces 32 line))) None

-- The number of lines, or the first one of another shape.
unfoldable pub checked : List Line → Result ℕ ℕ
checked ls = cond (eqb (other_line 1 ls) 0) (Ok (length ls)) (Err (other_line 1 ls))
