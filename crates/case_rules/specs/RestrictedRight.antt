-- What holds of a formula with its first unknowns set to values vs. Assumes nothing.
use Rattle.std.specs.Prelude.{ℕ, ◌≤◌, ◌≡◌, Bool, List, [], ◌++◌, ℤ, length, drop}
use Rattle.formula.specs.Formula.{prefix, clauses}
use Rattle.formula.specs.Meaning.{matrix, meaning, verdict}
use Rattle.rounds.specs.Opening.{set_to}
use Rattle.case_rules.specs.Restricted.{IsAccepted, restricted, kinds_behind}

pub record RestrictedRight (vs : List Bool) (kinds : List ℕ) (literals : List ℤ) : Type 0 where
  -- Its verdict is the meaning of 'the formula with that block set to those values', as C-11 has it, for any number of unknowns in front.
  pub verdict_set :
      verdict (kinds_behind vs kinds) (restricted vs literals) ≡ meaning (drop (length vs) (prefix kinds)) (set_to vs (matrix (clauses literals)))
  -- None of the causes 1 to 3 applies to it, so run and judge take it; and it has no more entries.
  pub accepted_again : length vs ≤ length kinds → IsAccepted kinds literals → IsAccepted (kinds_behind vs kinds) (restricted vs literals)
  pub no_more_entries : length vs ≤ length kinds → IsAccepted kinds literals → length (restricted vs literals) ≤ length literals
  -- Values set one after the other are the same as all at once, entry for entry; and with none set nothing changes.
  pub further : (ws : List Bool) → restricted (vs ++ ws) literals ≡ restricted ws (restricted vs literals)
  pub nothing_set : IsAccepted kinds literals → restricted [] literals ≡ literals
