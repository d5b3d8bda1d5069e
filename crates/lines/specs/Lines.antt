-- A text's bytes as lines, and a line's bytes as words (01's tokens). Assumes nothing.
use Rattle.std.specs.Prelude.{ℕ, Bool, true, false, ◌&&◌, List, [], ◌∷◌, eqb}

-- Bytes without their end or gap.
abbrev pub Bytes : Type 0
Bytes = List ℕ

-- A byte in front of the first piece.
abbrev pub onto : ℕ → List Bytes → List Bytes
onto x [] = (x ∷ []) ∷ []
onto x (p ∷ ps) = (x ∷ p) ∷ ps

-- A byte in front: one that parts begins a new piece, any other belongs to the first.
abbrev pub in_front : Bool → ℕ → List Bytes → List Bytes
in_front true x ps = [] ∷ ps
in_front false x ps = onto x ps

-- The pieces into which the byte b parts a list, empty ones too: one more than there are b.
abbrev pub pieces : ℕ → Bytes → List Bytes
pieces b [] = [] ∷ []
pieces b (x ∷ xs) = in_front (eqb x b) x (pieces b xs)

-- 'Lines end in LF.' The bytes after the last LF, if there are any, are a line that lacks its end.
pub data Line : Type 0 where
  ended : Bytes → Line
  unended : Bytes → Line

abbrev pub remainder : Bytes → List Line
remainder [] = []
remainder (x ∷ xs) = unended (x ∷ xs) ∷ []

abbrev pub as_lines : List Bytes → List Line
as_lines [] = []
as_lines (p ∷ []) = remainder p
as_lines (p ∷ q ∷ ps) = ended p ∷ as_lines (q ∷ ps)

-- The lines of a text; byte 10 is LF.
unfoldable pub lines : Bytes → List Line
lines text = as_lines (pieces 10 text)

-- 'Tokens are parted by one or more spaces': the words are the pieces that are not empty; byte 32 is the space.
abbrev pub keep : Bytes → List Bytes → List Bytes
keep [] ws = ws
keep (x ∷ xs) ws = (x ∷ xs) ∷ ws

abbrev pub filled : List Bytes → List Bytes
filled [] = []
filled (p ∷ ps) = keep p (filled ps)

unfoldable pub words : Bytes → List Bytes
words line = filled (pieces 32 line)

-- The first word, empty if there is none, and the words after it.
abbrev pub first : List Bytes → Bytes
first [] = []
first (w ∷ ws) = w

abbrev pub rest : List Bytes → List Bytes
rest [] = []
rest (w ∷ ws) = ws

abbrev pub second : List Bytes → Bytes
second ws = first (rest ws)

abbrev pub third : List Bytes → Bytes
third ws = first (rest (rest ws))

abbrev pub fourth : List Bytes → Bytes
fourth ws = first (rest (rest (rest ws)))

abbrev pub fifth : List Bytes → Bytes
fifth ws = first (rest (rest (rest (rest ws))))

-- Two lists of bytes are the same.
abbrev pub same : Bytes → Bytes → Bool
same [] [] = true
same [] (y ∷ ys) = false
same (x ∷ xs) [] = false
same (x ∷ xs) (y ∷ ys) = eqb x y && same xs ys
