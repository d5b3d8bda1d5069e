-- Which clauses the search looks up: the lent ones that are not always true, in their order, each literal once. What is always true is left
-- out before the index is made.
-- Assumes nothing.
use Rattle.std.specs.Prelude.{ℕ, ◌≡◌, Bool, false, cond, List, [], ◌∷◌, map}
use Rattle.formula.specs.Formula.{Clause}
use Rattle.formula.specs.Causes.{any}
use Rattle.codes.specs.Codes.{code_of, opposite, has}

-- A clause that has a literal and its opposite is true under all values.
abbrev pub always_true : List ℕ → Bool
always_true codes = any (λ x. has (opposite x) codes) codes

-- The others, in order.
abbrev pub looked_up : List Clause → List Clause
looked_up [] = []
looked_up (k ∷ ks) = let rest = looked_up ks in cond (always_true (map code_of k)) rest (k ∷ rest)

-- No code stands twice.
abbrev pub Once : List ℕ → Type 0
Once [] = Unit {0}
Once (x ∷ xs) = (has x xs ≡ false) × Once xs

-- A clause of codes stands for a lent one: the same literals, each once.
pub record StandsFor (clause : Clause) (codes : List ℕ) : Type 0 where
  pub same : (x : ℕ) → has x codes ≡ has x (map code_of clause)
  pub once : Once codes

-- One by one, in order.
abbrev pub Stand : List Clause → List (List ℕ) → Type 0
Stand [] [] = Unit {0}
Stand [] (d ∷ ds) = ⊥
Stand (k ∷ ks) [] = ⊥
Stand (k ∷ ks) (d ∷ ds) = StandsFor k d × Stand ks ds
