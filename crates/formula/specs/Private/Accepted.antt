-- What holds of an accepted formula. Assumes nothing.
use Rattle.std.specs.Prelude.{ℕ, ◌-◌, ◌≤◌, ◌≡◌, List, ℤ, pos, nat_abs, length, get_or}
use Rattle.formula.specs.Formula.{max_unknowns, max_clauses, max_entries, clauses}
use Rattle.formula.specs.Causes.{zeros}

-- 'A formula to which none of the causes 1 to 3 applies', by its places; past the end of either list stands 0.
pub record Accepted (kinds : List ℕ) (literals : List ℤ) : Type 0 where
  pub few_unknowns : length kinds ≤ max_unknowns
  pub kinds_known : (k : ℕ) → get_or kinds k 0 ≤ 1
  pub few_entries : length literals ≤ max_entries
  pub few_clauses : zeros literals ≤ max_clauses
  pub clauses_are_zeros : length (clauses literals) ≡ zeros literals
  pub last_is_zero : get_or literals (length literals - 1) (pos 0) ≡ pos 0
  pub within : (i : ℕ) → nat_abs (get_or literals i (pos 0)) ≤ length kinds
