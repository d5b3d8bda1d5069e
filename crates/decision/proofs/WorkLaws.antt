-- What is decided depends on the length of the work area, and not on what it holds. Assumes nothing.
use Prim.Native.Nat.{ℕ}
use mathlib.Core.Path.{◌≡◌, refl, sym, ap, ◌∙◌}
use mathlib.Core.Bool.{Bool, true, false, ◌||◌, cond}
use mathlib.Core.List.{List, [], ◌∷◌}
use mathlib.Core.Option.{some}
use lib.Dec.{eqb}
use lib.IntN.{ℤ}
use lib.ListN.{length, get_elem?}
use borrow.Author.Tests.{eq-eqb, eqb-true}
use Rattle.formula.specs.Formula.{prefix}
use Rattle.text.specs.Reading.{Result, taken, refused}
use Rattle.engine.specs.Outcome.{Given, cause as run_cause, accepted, reached, reported, refusal, returned, after, left}
use Rattle.study.specs.declared.Setting.{Setting}
use Rattle.study.specs.Study.{formula_of, preferences_of, given_of, settings_of, Ending, ending, is_verdict, list_cause, cause, in_turn, studied}
use Rattle.study.specs.Private.Turns.{SameSizes}
use Rattle.study.proofs.SizeLaws.{same_cause}
use Rattle.study.proofs.CauseLaws.{each_accepted}
use Rattle.decision.specs.Deciding.{of_study, decided}
use Rattle.decision.specs.Settings.{own_areas}

module _ (w w' : List ℕ) (same : length w ≡ length w') where
  sizes : SameSizes (own_areas w) (own_areas w')
  sizes =
      record {
        universal_rows = refl;
        universal_marks = refl;
        universal_counts = refl;
        existential_rows = refl;
        existential_marks = refl;
        existential_counts = refl;
        work = same;
      }

  module _ (kinds : List ℕ) (literals : List ℤ) (settings : List ℕ) where
    same_study_cause : cause kinds literals settings (own_areas w) ≡ cause kinds literals settings (own_areas w')
    unfolding cause
    same_study_cause = ap (λ (n : ℕ). cond (eqb n 0) (list_cause settings) n) (same_cause kinds literals [] (own_areas w) (own_areas w') 1 0 sizes)

    module _ (s : Setting) (none : run_cause (given_of kinds literals s (own_areas w)) ≡ 0) where
      abbrev g : Given
      g = given_of kinds literals s (own_areas w)

      abbrev g' : Given
      g' = given_of kinds literals s (own_areas w')

      both_accepted : (accepted g ≡ true) × (accepted g' ≡ true)
      both_accepted = (
        eq-eqb (run_cause g) 0 none,
        eq-eqb (run_cause g') 0
            (sym (same_cause kinds (formula_of s.trim kinds literals) (preferences_of s.preference) (own_areas w) (own_areas w') s.limit s.clearing sizes) ∙ none),
      )

      same_returned : returned g ≡ returned g'
      unfolding returned
      same_returned =
          ap (λ (b : Bool). cond b (reported (prefix kinds) (reached g)) (refusal (run_cause g))) both_accepted.0
          ∙ sym (ap (λ (b : Bool). cond b (reported (prefix kinds) (reached g')) (refusal (run_cause g'))) both_accepted.1)

      same_left : left g ≡ left g'
      unfolding left
      same_left =
          ap (λ (b : Bool). cond b (after g s.limit) (own_areas w)) both_accepted.0
          ∙ sym (ap (λ (b : Bool). cond b (after g' s.limit) (own_areas w')) both_accepted.1)

    same_turns : (s : Setting) (rest : List Setting) → run_cause (given_of kinds literals s (own_areas w)) ≡ 0
        → in_turn kinds literals (s ∷ rest) 0 (own_areas w) ≡ in_turn kinds literals (s ∷ rest) 0 (own_areas w')
    unfolding in_turn
    same_turns s rest none =
        λ d.
        let o = same_returned s none d in
        let a = same_left s none d in
        cond (is_verdict o.answer || eqb (length rest) 0) (ending o 0 a) (in_turn kinds literals rest 1 a)

    same_list : (ss : List Setting) → ((i : ℕ) (s : Setting) → get_elem? ss i ≡ some s → run_cause (given_of kinds literals s (own_areas w)) ≡ 0)
        → (in_turn kinds literals ss 0 (own_areas w)).result ≡ (in_turn kinds literals ss 0 (own_areas w')).result
    unfolding in_turn
    same_list [] accepts = refl
    same_list (s ∷ rest) accepts = ap (λ (e : Ending). e.result) (same_turns s rest (accepts 0 s refl))

    pub same_result : (studied kinds literals settings (own_areas w)).result ≡ (studied kinds literals settings (own_areas w')).result
    unfolding studied
    same_result =
        by_test (eqb (cause kinds literals settings (own_areas w)) 0) refl
        ∙ ap (λ (n : ℕ). (cond (eqb n 0) (in_turn kinds literals (settings_of settings) 0 (own_areas w')) (ending (refusal n) 0 (own_areas w'))).result) same_study_cause
      where
        by_test : (b : Bool) → eqb (cause kinds literals settings (own_areas w)) 0 ≡ b
            → (cond b (in_turn kinds literals (settings_of settings) 0 (own_areas w)) (ending (refusal (cause kinds literals settings (own_areas w))) 0 (own_areas w))).result
            ≡ (cond b (in_turn kinds literals (settings_of settings) 0 (own_areas w')) (ending (refusal (cause kinds literals settings (own_areas w))) 0 (own_areas w'))).result
        by_test true e =
            same_list (settings_of settings)
            (each_accepted kinds literals settings (own_areas w) (eqb-true (cause kinds literals settings (own_areas w)) 0 e))
        by_test false e = refl

  pub same_decision : (result : Result) (settings : List ℕ) → (decided result settings (own_areas w)).decision ≡ (decided result settings (own_areas w')).decision
  same_decision (refused n line) settings = refl
  same_decision (taken r) settings =
      ap (of_study (length r.kinds) (length r.literals) r.variables r.clauses) (same_result r.kinds r.literals settings)
