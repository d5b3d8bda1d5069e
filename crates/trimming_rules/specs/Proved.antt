-- What holds of the trimmed formula, for every accepted one: 02's promises in C-13, and what they carry over.
-- Assumes nothing.
use Rattle.std.specs.Prelude.{ℕ, ◌≤◌, ◌≡◌, Bool, true, false, List, ℤ, length}
use Rattle.std.proofs.Math.Option.{none}
use Rattle.formula.specs.Formula.{prefix, clauses}
use Rattle.formula.specs.Meaning.{matrix, verdict}
use Rattle.formula.specs.Causes.{checked, number}
use Rattle.expansion.specs.Play.{Row}
use Rattle.expansion.specs.Judge.{accepted}
use Rattle.rounds.specs.Run.{Lent, is_true, is_false, run}
use Rattle.trimming_rules.specs.Trimming.{step, trimmed}

-- A run over the trimmed formula: the kinds that are lent, the clauses that are left, and any tables and preferences.
pub record Over (kinds : List ℕ) (literals : List ℤ) (l : Lent) : Type 0 where
  pub kinds_stay : l.ks ≡ prefix kinds
  pub trimmed_first : l.phi ≡ matrix (clauses (trimmed kinds literals))

pub record Proved (kinds : List ℕ) (literals : List ℤ) : Type 0 where
  -- 'The verdict of the trimmed formula is that of the lent one, for every accepted formula ..'
  pub verdict_kept : verdict kinds (trimmed kinds literals) ≡ verdict kinds literals
  -- '.. and trimming twice is trimming once', entry for entry.
  pub twice_is_once : trimmed kinds (trimmed kinds literals) ≡ trimmed kinds literals
  -- No rule has a change left.
  pub nothing_left : step (prefix kinds) (clauses (trimmed kinds literals)) ≡ none
  -- None of the causes 1 to 3 applies to it, so run and judge take it.
  pub accepted_again : number (checked kinds (trimmed kinds literals)) ≡ 0
  pub no_more_entries : length (trimmed kinds literals) ≤ length literals
  -- 'Rows and opening of a trimmed run belong to the trimmed formula', but its verdict is the lent one's, with any limit ..
  pub run_true : (l : Lent) (limit : ℕ) → Over kinds literals l → (run l limit).answer ≡ is_true → verdict kinds literals ≡ true
  pub run_false : (l : Lent) (limit : ℕ) → Over kinds literals l → (run l limit).answer ≡ is_false → verdict kinds literals ≡ false
  -- .. 'and the judge is given that one': a claim that it accepts over the trimmed formula is the lent one's verdict.
  pub claim_carried : (claim : Bool) (rows : List Row) → accepted claim (prefix kinds) (matrix (clauses (trimmed kinds literals))) rows ≡ true →
      verdict kinds literals ≡ claim
