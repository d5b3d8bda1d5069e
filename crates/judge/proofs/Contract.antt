-- The contract of `judge`, from what the search returned and left.
-- Assumes nothing.
use Prim.Native.Nat.{ℕ}
use Rattle.std.specs.Prelude.{Result}
use mathlib.Core.Path.{◌≡◌, sym, ap, ◌∙◌}
use mathlib.Core.Bool.{true, false}
use mathlib.Core.List.{List, []}
use lib.Dec.{eqb}
use lib.IntN.{ℤ}
use lib.ListN.{length, replicate}
use Rattle.cause.specs.declared.Cause.{Cause}
use Rattle.formula.specs.Formula.{prefix, clauses}
use Rattle.formula.specs.Meaning.{matrix}
use Rattle.expansion.proofs.Right.{judge_right}
use Rattle.engine.specs.Search as search
use Rattle.engine.specs.declared.search.Search.{Search}
use Rattle.judge.specs.declared.Judgement.{Judgement}
use Rattle.judge.specs.Judge.{claims_true, lent_rows, outcome, work_after, number, Judged}
use Rattle.judge.proofs.Causes.{counted}
use Rattle.judge.proofs.Outcome.{judgement_of, is_found, searched, same_outcome, same_number, same_work, cleared_work}
use Rattle.judge.proofs.Verdict.{accepted_is_verdict}

module _ (kinds : List ℕ) (literals : List ℤ) (claim : ℕ) (rows : List ℕ) (count : ℕ) (work : List ℕ) where
  abbrev Promised : Result Judgement Cause → List ℕ → Type 0
  Promised = Judged kinds literals claim rows count work

  -- The other promises follow from the first.
  promised : (judgement : Result Judgement Cause) (left : List ℕ) → judgement ≡ outcome kinds literals claim rows count work
      → left ≡ work_after kinds literals claim rows count work → Promised judgement left
  promised judgement left same same_left =
      record {
        returned = same;
        numbered = ap number same ∙ same_number kinds literals claim rows count work;
        area = same_left;
        only_verdict = λ e. accepted_is_verdict kinds literals claim rows count work (sym same ∙ e);
        right = judge_right (claims_true claim) (prefix kinds) (matrix (clauses literals)) (lent_rows kinds claim rows count);
      }

  -- The search was handed the count `lent`; what it returned is the case in hand.
  module _ (lent : ℕ) (counts : lent ≡ counted claim rows count) {result : Result Search Cause} (case : Result Search Cause) (told : result ≡ case)
      (returned : result ≡ search.outcome kinds literals [] rows lent (eqb claim 1) work) where
    is_searched : case ≡ searched kinds literals claim rows count work
    is_searched = sym told ∙ returned ∙ ap (λ (n : ℕ). search.outcome kinds literals [] rows n (eqb claim 1) work) counts

    judged : judgement_of case ≡ outcome kinds literals claim rows count work
    judged = ap judgement_of is_searched ∙ same_outcome kinds literals claim rows count work

    pub promised_unless_found : is_found case ≡ false → (left : List ℕ)
        → left ≡ search.work_after kinds literals [] rows lent (eqb claim 1) work → Promised (judgement_of case) left
    promised_unless_found unfound left same_left =
        promised (judgement_of case) left judged
        (same_left
        ∙ ap (λ (n : ℕ). search.work_after kinds literals [] rows n (eqb claim 1) work) counts
        ∙ same_work kinds literals claim rows count work (sym (ap is_found is_searched) ∙ unfound))

    pub promised_if_found : is_found case ≡ true → (left : List ℕ) → left ≡ replicate (length work) 0 → Promised (judgement_of case) left
    promised_if_found found left cleared =
        promised (judgement_of case) left judged
        (cleared ∙ cleared_work kinds literals claim rows count work (sym (ap is_found is_searched) ∙ found))
