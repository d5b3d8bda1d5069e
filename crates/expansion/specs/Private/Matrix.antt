-- Clauses and the matrix under values by position, for any form of literals; `true_at` gives a literal's value. Assumes nothing.
use Rattle.std.specs.Prelude.{ℕ, zero, suc, ◌<◌, Bool, true, false, not, ◌&&◌, ◌||◌, List, [], ◌∷◌, ℤ, pos, negsuc}
use Rattle.formula.specs.Formula.{Kind, existential, universal, Clause}

abbrev pub clause_at : {L : Type 0} → ((ℕ → Bool) → L → Bool) → (ℕ → Bool) → List L → Bool
clause_at true_at f [] = false
clause_at true_at f (z ∷ c) = true_at f z || clause_at true_at f c

abbrev pub matrix_at : {L : Type 0} → ((ℕ → Bool) → L → Bool) → List (List L) → (ℕ → Bool) → Bool
matrix_at true_at [] f = true
matrix_at true_at (c ∷ cs) f = clause_at true_at f c && matrix_at true_at cs f

-- A lent literal's value.
abbrev pub literal_at : (ℕ → Bool) → ℤ → Bool
literal_at f (pos zero) = false
literal_at f (pos (suc x)) = f x
literal_at f (negsuc x) = not (f x)

-- The side's goal.
abbrev pub goal_at : Kind → List Clause → (ℕ → Bool) → Bool
goal_at existential cs f = matrix_at literal_at cs f
goal_at universal cs f = not (matrix_at literal_at cs f)

-- The literal names one of n unknowns.
abbrev pub Names : ℕ → ℤ → Type 0
Names n (pos zero) = ⊥
Names n (pos (suc x)) = x < n
Names n (negsuc x) = x < n
