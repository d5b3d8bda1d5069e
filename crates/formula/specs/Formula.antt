-- A formula as it is lent: kinds and literals, and the prefix and clauses that they stand for. Assumes nothing.
use Rattle.std.specs.Prelude.{ℕ, zero, suc, List, [], ◌∷◌, map, ℤ, pos, negsuc}

-- 'The limits 128, 2,048, 8,192 and 256 (rows) belong to the formula and are named there once.' In code they are `Formula`'s constants.
abbrev pub max_unknowns : ℕ
max_unknowns = 128

abbrev pub max_clauses : ℕ
max_clauses = 2048

abbrev pub max_entries : ℕ
max_entries = 8192

abbrev pub max_rows : ℕ
max_rows = 256

-- 'Run and judge are each lent a work area of exactly 65,536 bytes.'
abbrev pub work_size : ℕ
work_size = 65536

-- The quantifier of an unknown.
pub data Kind : Type 0 where
  existential : Kind
  universal : Kind

-- 'One byte for each unknown in prefix order, 0 existential, 1 universal.'
abbrev pub kind_of : ℕ → Kind
kind_of zero = existential
kind_of (suc k) = universal

-- The prefix: the kinds of the unknowns, outermost first.
abbrev pub prefix : List ℕ → List Kind
prefix kinds = map kind_of kinds

-- A clause is its literals. A literal is v or -v, for the unknown named v, from 1.
abbrev pub Clause : Type 0
Clause = List ℤ

-- A literal in front of a clause's first literal; the clause may be one that no 0 ends.
abbrev pub onto : ℤ → List Clause → List Clause
onto z [] = (z ∷ []) ∷ []
onto z (c ∷ cs) = (z ∷ c) ∷ cs

-- An entry in front: 0 ends a clause before the next begins, and any other entry belongs to the clause that it stands before.
abbrev pub with_entry : ℤ → List Clause → List Clause
with_entry (pos zero) cs = [] ∷ cs
with_entry (pos (suc v)) cs = onto (pos (suc v)) cs
with_entry (negsuc v) cs = onto (negsuc v) cs

-- 'Literals: signed 32-bit numbers, v or -v with v from 1 to n, each clause ended by 0.'
abbrev pub clauses : List ℤ → List Clause
clauses [] = []
clauses (z ∷ zs) = with_entry z (clauses zs)
