-- 01's run is a study of one setting, whatever is lent. Assumes nothing.
use Prim.Native.Nat.{ℕ}
use mathlib.Core.Path.{◌≡◌, refl, sym, ap, ◌∙◌}
use mathlib.Core.Bool.{Bool, true, false, ◌||◌, cond}
use mathlib.Core.List.{List, []}
use lib.Dec.{eqb}
use lib.IntN.{ℤ}
use borrow.Author.Tests.{eqb-true}
use Rattle.formula.specs.Formula.{prefix}
use Rattle.engine.specs.Outcome.{Areas, Given, given, cause as run_cause, reached, reported, refusal, returned, after, left}
use Rattle.study.specs.Study.{settings_of, preferences_of, unknown, cause_26, list_cause, cause, ending, is_verdict, in_turn, studied}
use Rattle.study.proofs.CauseLaws.{cause_of_run, cause_tested}
use Rattle.decision.specs.Settings.{one_run}

pub list_of_one : (limit : ℕ) → list_cause (one_run limit) ≡ cond (eqb limit 0 || false) 6 0
unfolding list_cause cause_26 settings_of unknown
list_of_one limit = refl

or_true : (b : Bool) → (b || true) ≡ true
or_true true = refl
or_true false = refl

six_or_itself : (n : ℕ) → cond (eqb n 6) 6 n ≡ n
six_or_itself n = by_test (eqb n 6) refl
  where
    by_test : (b : Bool) → eqb n 6 ≡ b → cond b 6 n ≡ n
    by_test true e = sym (eqb-true n 6 e)
    by_test false e = refl

module _ (kinds : List ℕ) (literals : List ℤ) (limit : ℕ) (found : Areas) where
  abbrev g : Given
  g = given kinds literals [] found limit 0

  pub one_cause : cause kinds literals (one_run limit) found ≡ run_cause g
  one_cause = by_test (eqb limit 0) refl
    where
      by_test : (b : Bool) → eqb limit 0 ≡ b → cause kinds literals (one_run limit) found ≡ run_cause g
      by_test true e =
          let none : limit ≡ 0 = eqb-true limit 0 e in
          cause_tested kinds literals (one_run limit) found
          ∙ ap (λ (n : ℕ). cond (eqb (run_cause (given kinds literals [] found 0 0)) 6) n (run_cause (given kinds literals [] found 0 0)))
          (list_of_one limit ∙ ap (λ (b : Bool). cond (b || false) 6 0) e)
          ∙ six_or_itself (run_cause (given kinds literals [] found 0 0))
          ∙ ap (λ (n : ℕ). run_cause (given kinds literals [] found n 0)) (sym none)
      by_test false e =
          sym (cause_of_run (one_run limit) (list_of_one limit ∙ ap (λ (b : Bool). cond (b || false) 6 0) e) kinds literals found [] limit 0 e)

  pub one_study : studied kinds literals (one_run limit) found ≡ ending (returned g) 0 (left g)
  unfolding studied settings_of in_turn preferences_of returned left
  one_study =
      ap (λ (n : ℕ). cond (eqb n 0) (cond (is_verdict (returned g).answer || true) (ending (returned g) 0 (left g)) (ending (refusal 26) 1 (left g))) (ending (refusal n) 0 found)) one_cause
      ∙ ap (λ (b : Bool). cond (eqb (run_cause g) 0) (cond b (ending (returned g) 0 (left g)) (ending (refusal 26) 1 (left g))) (ending (refusal (run_cause g)) 0 found)) (or_true (is_verdict (returned g).answer))
      ∙ by_test (eqb (run_cause g) 0)
    where
      by_test : (b : Bool)
          → cond b (ending (cond b (reported (prefix kinds) (reached g)) (refusal (run_cause g))) 0 (cond b (after g limit) found)) (ending (refusal (run_cause g)) 0 found)
          ≡ ending (cond b (reported (prefix kinds) (reached g)) (refusal (run_cause g))) 0 (cond b (after g limit) found)
      by_test true = refl
      by_test false = refl
