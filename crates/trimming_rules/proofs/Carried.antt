-- What holds of the trimmed formula, for every accepted one; what is settled for it is settled for the lent one.
-- Assumes nothing.
use Prim.Native.Nat.{ℕ}
use mathlib.Core.Path.{◌≡◌, sym, ◌∙◌, ap, ap₂}
use mathlib.Core.Bool.{Bool, true}
use mathlib.Core.List.{List}
use lib.IntN.{ℤ}
use Rattle.formula.specs.Formula.{prefix, clauses}
use Rattle.formula.specs.Causes.{number}
use Rattle.formula.specs.Meaning.{matrix, meaning, verdict}
use Rattle.formula.proofs.Accepted.{Accepted, accepting}
use Rattle.expansion.specs.Play.{Row}
use Rattle.expansion.specs.Judge.{accepted}
use Rattle.expansion.proofs.Judged as judged
use Rattle.rounds.specs.Run.{Lent}
use Rattle.rounds.proofs.Verdict.{verdict_right}
use Rattle.trimming_rules.specs.Trimming.{trimmed}
use Rattle.trimming_rules.specs.Proved.{Over, Proved}
use Rattle.trimming_rules.proofs.Trimmed.{verdict_kept, nothing_left, trimmed_twice, trimmed_accepted, trimmed_fits}

module _ (kinds : List ℕ) (literals : List ℤ) (a : Accepted kinds literals) where
  carried : (l : Lent) → Over kinds literals l → meaning l.ks l.phi ≡ verdict kinds literals
  unfolding verdict
  carried l o = ap₂ meaning o.kinds_stay o.trimmed_first ∙ verdict_kept kinds literals a

  claimed : (claim : Bool) (rows : List Row) → accepted claim (prefix kinds) (matrix (clauses (trimmed kinds literals))) rows ≡ true →
      verdict kinds literals ≡ claim
  unfolding verdict
  claimed claim rows e = sym (verdict_kept kinds literals a) ∙ judged.accepted_verdict claim (prefix kinds) (matrix (clauses (trimmed kinds literals))) rows e

  pub proved : Proved kinds literals
  proved =
      record {
        verdict_kept = verdict_kept kinds literals a;
        twice_is_once = trimmed_twice kinds literals a;
        nothing_left = nothing_left kinds literals a;
        accepted_again = ap number (accepting kinds (trimmed kinds literals) (trimmed_accepted kinds literals a));
        no_more_entries = trimmed_fits kinds literals a;
        run_true = λ l limit o e. sym (carried l o) ∙ (verdict_right l limit).only_true e;
        run_false = λ l limit o e. sym (carried l o) ∙ (verdict_right l limit).only_false e;
        claim_carried = claimed;
      }
