-- What codes mean, and what is known while they are written: cited by laws and by contracts of private functions alone.
-- Assumes nothing.
use Rattle.std.specs.Prelude.{ℕ, zero, suc, ◌+◌, ◌-◌, ◌/◌, ◌%◌, ◌≤◌, ◌<◌, ◌≡◌, ◌⊎◌, Bool, not, cond, List, [], ◌∷◌, ◌++◌, eqb, ℤ, pos, nat_abs, length, get_or, take, drop}
use Rattle.formula.specs.Formula.{clauses}
use Rattle.expansion.specs.Private.Matrix.{matrix_at, literal_at}
pub use Rattle.codes.specs.Codes.{clause_of}
use Rattle.codes.specs.Codes.{with_code, so_far, always_true, encoding_from}

-- The position of a code's unknown, and the value of its literal under values by position.
abbrev pub position : ℕ → ℕ
position c = c / 2 - 1

unfoldable pub code_true : (ℕ → Bool) → ℕ → Bool
code_true f c = cond (eqb (c % 2) 0) (f (position c)) (not (f (position c)))

-- A code in front of the first clause's.
abbrev pub code_onto : ℕ → List (List ℕ) → List (List ℕ)
code_onto c [] = (c ∷ []) ∷ []
code_onto c (x ∷ xs) = (c ∷ x) ∷ xs

-- The clauses, cut at zeros.
abbrev pub code_clauses : List ℕ → List (List ℕ)
code_clauses [] = []
code_clauses (zero ∷ cs) = [] ∷ code_clauses cs
code_clauses (suc c ∷ cs) = code_onto (suc c) (code_clauses cs)

-- A zero follows: the clause that begins here has its end.
abbrev pub HasEnd : List ℕ → Type 0
HasEnd [] = ⊥
HasEnd (zero ∷ cs) = Unit {0}
HasEnd (suc c ∷ cs) = HasEnd cs

-- Every clause has its end.
abbrev pub Ended : List ℕ → Type 0
Ended [] = Unit {0}
Ended (c ∷ cs) = HasEnd (c ∷ cs) × Ended cs

-- The side's goal over values by position: side 0 is the existential one, 1 the universal one.
unfoldable pub code_goal : ℕ → List ℕ → (ℕ → Bool) → Bool
code_goal zero codes f = matrix_at code_true (code_clauses codes) f
code_goal (suc side) codes f = not (matrix_at code_true (code_clauses codes) f)

-- A clause begins at `start`.
abbrev pub Begins : List ℕ → ℕ → Type 0
Begins codes start = (start ≡ 0) ⊎ (get_or codes (start - 1) 0 ≡ 0)

-- Each code is a zero or a literal of one of n unknowns.
abbrev pub Coded : ℕ → List ℕ → Type 0
Coded n codes = (e : ℕ) → e < length codes → 0 < get_or codes e 0 → (2 ≤ get_or codes e 0) × (position (get_or codes e 0) < n)

-- The codes stand for the literals: the matrix has the same value under all values of the unknowns.
pub record Encoded (literals : List ℤ) (codes : List ℕ) : Type 0 where
  pub same : (f : ℕ → Bool) → matrix_at literal_at (clauses literals) f ≡ matrix_at code_true (code_clauses codes) f
  pub ended : Ended codes
  pub coded : (n : ℕ) → ((i : ℕ) → i < length literals → nat_abs (get_or literals i (pos 0)) ≤ n) → Coded n codes

-- ---- while codes are written

-- The literals name none but the first n unknowns.
abbrev pub Names : ℕ → List ℤ → Type 0
Names n literals = (i : ℕ) → i < length literals → nat_abs (get_or literals i (pos 0)) ≤ n

-- The rest of a clause that is always true is passed.
pub record PastClause (literals : List ℤ) (from next : ℕ) : Type 0 where
  pub ahead : from < next
  pub inside : next ≤ length literals
  pub same : encoding_from always_true (drop from literals) ≡ encoding_from (so_far []) (drop next literals)

-- A code is added to the clause between `start` and `to`.
abbrev pub Added : ℕ → ℕ → ℕ → List ℕ → List ℕ → Type 0
Added start to code w u =
    (kept clause : List ℕ) → length kept ≡ start → take to w ≡ kept ++ clause → take (to + 1) u ≡ kept ++ with_code code clause

-- The clause that begins at `from` is read up to `next`, and its codes are written behind those before `start`.
pub record ClauseEncoded (literals : List ℤ) (from next start to : ℕ) (w u : List ℕ) : Type 0 where
  pub ahead : from < next
  pub inside : next ≤ length literals
  pub fits : to ≤ next
  pub new : List ℕ
  pub sized : to ≡ start + length new
  pub written : take to u ≡ take start w ++ new
  pub same : encoding_from (so_far []) (drop from literals) ≡ new ++ encoding_from (so_far []) (drop next literals)
