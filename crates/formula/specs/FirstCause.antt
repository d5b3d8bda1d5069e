-- The number of the first cause that applies. Assumes nothing.
use Rattle.std.specs.Prelude.{ℕ, cond, List, ℤ, length}
use Rattle.formula.specs.Causes.{cause_1, cause_2, cause_3}

-- Of causes 1 to 3; 0 if none applies.
unfoldable pub first_cause : List ℕ → List ℤ → ℕ
first_cause kinds literals = cond (cause_1 kinds) 1 (cond (cause_2 literals) 2 (cond (cause_3 (length kinds) literals) 3 0))
