-- The literals of a formula as codes, clause by clause: 0 ends a clause, 2v stands for the literal v and 2v + 1 for -v.
-- Assumes nothing.
use Rattle.std.specs.Prelude.{ℕ, zero, suc, ◌+◌, ◌*◌, ◌-◌, ◌/◌, ◌%◌, Bool, cond, ◌||◌, List, [], ◌∷◌, ◌++◌, map, eqb, ltb, ℤ, pos, negsuc, length, drop, replicate}
use Rattle.formula.specs.Formula.{max_unknowns}
use Rattle.formula.specs.Causes.{any, beyond}

-- The code of a literal; of the zero behind a clause it is 0.
abbrev pub code_of : ℤ → ℕ
code_of (pos v) = 2 * v
code_of (negsuc v) = 2 * suc v + 1

-- The last code: that of -v for the last unknown v.
abbrev pub last_code : ℕ
last_code = 2 * max_unknowns + 1

-- The code of the same unknown with the other sign.
unfoldable pub opposite : ℕ → ℕ
opposite c = cond (eqb (c % 2) 0) (c + 1) (c - 1)

-- The position of a code's unknown: c / 2 - 1 for the codes from 2 to the last, which stand for literals, and a position for any other number.
abbrev pub row_position : ℕ → ℕ
row_position c = (c / 2 + (max_unknowns - 1)) % max_unknowns

-- Whether a clause has a code.
abbrev pub has : ℕ → List ℕ → Bool
has c clause = any (eqb c) clause

-- The codes up to the first zero: the clause that begins here.
abbrev pub clause_of : List ℕ → List ℕ
clause_of [] = []
clause_of (zero ∷ cs) = []
clause_of (suc c ∷ cs) = suc c ∷ clause_of cs

-- A clause with one code more, at its end. The largest code stands first: a first one that is smaller makes room, and goes to the end.
unfoldable pub with_code : ℕ → List ℕ → List ℕ
with_code c [] = c ∷ []
with_code c (first ∷ rest) = cond (ltb first c) (c ∷ rest ++ (first ∷ [])) (first ∷ rest ++ (c ∷ []))

-- A clause as far as it is read: its codes, or that it is always true, since it has a literal and its opposite.
pub data Reading : Type 0 where
  so_far : List ℕ → Reading
  always_true : Reading

-- One literal more is read. A clause names each once.
abbrev pub read_code : ℕ → Reading → Reading
read_code c always_true = always_true
read_code c (so_far clause) =
    cond (has (opposite c) clause) always_true (cond (has c clause) (so_far clause) (so_far (with_code c clause)))

-- What is written of a clause at its end.
abbrev pub closed : Reading → List ℕ
closed (so_far clause) = clause ++ (0 ∷ [])
closed always_true = []

-- What is written from here on, after the first literals of a clause. A clause that no zero ends is left out.
abbrev pub encoding_from : Reading → List ℤ → List ℕ
encoding_from r [] = []
encoding_from r (pos zero ∷ zs) = closed r ++ encoding_from (so_far []) zs
encoding_from r (pos (suc v) ∷ zs) = encoding_from (read_code (code_of (pos (suc v))) r) zs
encoding_from r (negsuc v ∷ zs) = encoding_from (read_code (code_of (negsuc v)) r) zs

-- What is written of all literals.
unfoldable pub encoding : List ℤ → List ℕ
encoding literals = encoding_from (so_far []) literals

-- There are more literals than places for codes, or a literal names an unknown above the last.
unfoldable pub refused : List ℤ → ℕ → Bool
refused literals places = ltb places (length literals) || any (beyond max_unknowns) literals

-- The number of entries used.
abbrev pub used : List ℤ → ℕ → ℕ
used literals places = cond (refused literals places) 0 (length (encoding literals))

-- The table: the encoding and zeros behind it, or what it was.
abbrev pub filled : List ℤ → List ℕ → List ℕ
filled literals codes =
    cond (refused literals (length codes)) codes (encoding literals ++ replicate (length codes - length (encoding literals)) 0)

-- The table with the code of each literal at its place, and what it was behind them; or what it was.
abbrev pub entry_by_entry : List ℤ → List ℕ → List ℕ
entry_by_entry literals codes =
    cond (refused literals (length codes)) codes (map code_of literals ++ drop (length literals) codes)
