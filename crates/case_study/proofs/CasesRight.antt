-- The theorem on decisions by cases. Assumes nothing.
use Prim.Native.Nat.{ℕ, zero, suc, ◌/◌}
use native.Mathlib.Omega.{arith}
use mathlib.Core.Path.{◌≡◌, refl, sym, ap, subst, ◌∙◌}
use mathlib.Core.Bool.{Bool, true, false, not, cond, ◌||◌, true≢false, false≢true}
use mathlib.Core.List.{List, [], ◌∷◌}
use mathlib.Core.Option.{Option, none, some}
use lib.Dec.{eqb}
use lib.IntN.{ℤ}
use lib.ListN.{length}
use borrow.Author.Tests.{eq-eqb, ne_eqb, eqb-true, eqb-false}
use Rattle.formula.specs.Causes.{any}
use Rattle.formula.specs.Meaning.{verdict}
use Rattle.formula.proofs.Accepted.{accepting}
use Rattle.trimming_rules.specs.Proved.{Proved}
use Rattle.engine.specs.declared.run.Answer.{Answer}
use Rattle.engine.specs.declared.run.Answer.TheVariants.{False, True, Spent, NoRoomUniversal, NoRoomExistential, Refused}
use Rattle.engine.specs.Outcome.{Areas, refusal, returned, left}
use Rattle.case_rules.specs.Restricted.{IsAccepted}
use Rattle.study.specs.declared.Setting.{Setting}
use Rattle.study.specs.Study.{setting_from, settings_of, formula_of, given_of, unknown, no_round, cause as study_cause, is_verdict, in_turn, studied}
use Rattle.study.specs.Study as Study
use Rattle.study.specs.StudyRight.{answer_of}
use Rattle.study.specs.Private.Turns.{SameSizes}
use Rattle.study.proofs.CauseLaws.{Fits, passes, formula_accepted, trimming_proved, each_accepted}
use Rattle.study.proofs.SizeLaws.{left_sizes}
use Rattle.study.proofs.StudyRight.{Accepts, later_accepts, study_right}
use Rattle.case_study.specs.Cases.{state, reply_of, by_run, decide_by}
use Rattle.case_study.specs.Decided.{cases_cause, cause, ending, no_runs, by_cases, answer_told, told_ending, study_ending, accepted_ending, decided}
use Rattle.case_study.specs.CasesRight.{CasesRight}
use Rattle.case_study.proofs.AcceptedLaws.{trimmed_accepted, trimmed_verdict}
use Rattle.case_study.proofs.ReplyLaws.{Tells, refit}
use Rattle.case_study.proofs.ToldLaws.{Says, decide_says, decide_answers}

-- ---- answers

tells_if : (v : Bool) (a : Answer) → (a ≡ True → v ≡ true) → (a ≡ False → v ≡ false) → Tells (reply_of a) v
tells_if v True t f = t refl
tells_if v False t f = f refl
tells_if v Spent t f = tt
tells_if v NoRoomUniversal t f = tt
tells_if v NoRoomExistential t f = tt
tells_if v (Refused n) t f = tt

tells_told : (v : Bool) (o : Option Bool) → Says o v → Tells (reply_of (answer_told o)) v
tells_told v none h = tt
tells_told v (some true) h = h
tells_told v (some false) h = h

verdict_answer : (v : Bool) (a : Answer) → Tells (reply_of a) v → is_verdict a ≡ true → a ≡ answer_of v
verdict_answer v True h e = ap answer_of (sym h)
verdict_answer v False h e = ap answer_of (sym h)
verdict_answer v Spent h e = absurd (false≢true e)
verdict_answer v NoRoomUniversal h e = absurd (false≢true e)
verdict_answer v NoRoomExistential h e = absurd (false≢true e)
verdict_answer v (Refused n) h e = absurd (false≢true e)

told_verdict : (w : Bool) → is_verdict (answer_told (some w)) ≡ true
told_verdict true = refl
told_verdict false = refl

-- ---- the study leaves areas of the sizes that it found

same_all : (a : Areas) → SameSizes a a
same_all a =
    record {
      universal_rows = refl;
      universal_marks = refl;
      universal_counts = refl;
      existential_rows = refl;
      existential_marks = refl;
      existential_counts = refl;
      work = refl;
    }

module _ (kinds : List ℕ) (literals : List ℤ) (trimming : Proved kinds literals) where
  turns_fit : (ss : List Setting) (i : ℕ) (found : Areas) → Accepts kinds literals trimming ss found → Fits found
      → Fits (in_turn kinds literals ss i found).areas_left
  unfolding in_turn
  turns_fit [] i found accepts fits = fits
  turns_fit (s ∷ rest) i found accepts fits =
      let g = given_of kinds literals s found in
      let after = refit found (left g) fits (left_sizes g (accepts zero s refl)) in
      by_test (is_verdict (returned g).answer || eqb (length rest) 0) (Study.ending (returned g) i (left g)) (in_turn kinds literals rest (suc i) (left g)) after
      (turns_fit rest (suc i) (left g) (later_accepts kinds literals trimming s rest found accepts) after)
    where
      by_test : (b : Bool) (x y : Study.Ending) → Fits x.areas_left → Fits y.areas_left → Fits (cond b x y).areas_left
      by_test true x y h g = h
      by_test false x y h g = g

-- ---- the cases' setting

of_cases : (empty four strange unlimited : Bool) → ◌≡◌ {A = ℕ} (cond empty 0 (cond (not four || strange) 28 (cond unlimited 6 0))) 0 → empty ≡ false
    → (four ≡ true) × (unlimited ≡ false)
of_cases true four strange unlimited e some_cases = absurd (true≢false some_cases)
of_cases false false strange unlimited e some_cases = let z : ◌≡◌ {A = ℕ} 28 0 = e in absurd (omega arith)
of_cases false true true unlimited e some_cases = let z : ◌≡◌ {A = ℕ} 28 0 = e in absurd (omega arith)
of_cases false true false true e some_cases = let z : ◌≡◌ {A = ℕ} 6 0 = e in absurd (omega arith)
of_cases false true false false e some_cases = (refl, refl)

or_first : (a b : Bool) → (a || b) ≡ false → a ≡ false
or_first true b e = absurd (true≢false e)
or_first false b e = refl

of_four : (cases : List ℕ) → length cases ≡ 4 → any no_round (settings_of cases) ≡ false → eqb (setting_from cases).limit 0 ≡ false
unfolding settings_of
of_four [] e h = absurd (omega arith)
of_four (t ∷ []) e h = absurd (omega arith)
of_four (t ∷ p ∷ []) e h = absurd (omega arith)
of_four (t ∷ p ∷ k ∷ []) e h = absurd (omega arith)
of_four (t ∷ p ∷ k ∷ n ∷ rest) e h = or_first (eqb n 0) (any no_round (settings_of rest)) h

parts : (n later : ℕ) → cond (eqb n 0) later n ≡ 0 → (n ≡ 0) × (later ≡ 0)
parts n later = by_test (eqb n 0) refl
  where
    by_test : (b : Bool) → eqb n 0 ≡ b → cond b later n ≡ 0 → (n ≡ 0) × (later ≡ 0)
    by_test true t e = (eqb-true n 0 t, e)
    by_test false t e = absurd (eqb-false n 0 t e)

-- ---- the theorem

module _ (kinds : List ℕ) (literals : List ℤ) (settings cases : List ℕ) (bound : ℕ) (found : Areas) where
  abbrev stops : ℕ
  stops = cause kinds literals settings cases found

  abbrev s : Setting
  s = setting_from cases

  pub both_causes : stops ≡ 0 → (study_cause kinds literals settings found ≡ 0) × (cases_cause cases ≡ 0)
  unfolding cause
  both_causes no_cause = parts (study_cause kinds literals settings found) (cases_cause cases) no_cause

  module _ (no_cause : stops ≡ 0) where
    abbrev study_no_cause : study_cause kinds literals settings found ≡ 0
    study_no_cause = (both_causes no_cause).0

    pub lent_accepted : IsAccepted kinds literals
    lent_accepted = accepting kinds literals (formula_accepted kinds literals settings found study_no_cause)

    abbrev first : List ℤ
    first = formula_of s.trim kinds literals

    pub first_accepted : IsAccepted kinds first
    first_accepted = trimmed_accepted s.trim kinds literals lent_accepted

    study_tells : Tells (reply_of (studied kinds literals settings found).result.outcome.answer) (verdict kinds literals)
    study_tells =
        let right = study_right kinds literals settings found in
        tells_if (verdict kinds literals) (studied kinds literals settings found).result.outcome.answer right.only_true right.only_false

    pub study_fits : Fits (studied kinds literals settings found).areas_left
    unfolding studied
    study_fits =
        subst (λ (b : Bool). Fits (cond b (in_turn kinds literals (settings_of settings) 0 found) (Study.ending (refusal (study_cause kinds literals settings found)) 0 found)).areas_left)
        (sym (eq-eqb (study_cause kinds literals settings found) 0 study_no_cause))
        (turns_fit kinds literals (trimming_proved kinds literals settings found study_no_cause) (settings_of settings) 0 found (each_accepted kinds literals settings found study_no_cause)
        (passes kinds literals settings found study_no_cause).fits)

    cases_tell : (at : Areas) → Tells (reply_of (answer_told (by_cases kinds literals s bound at).answer)) (verdict kinds literals)
    unfolding by_cases
    cases_tell at =
        tells_told (verdict kinds literals) (by_cases kinds literals s bound at).answer
        (subst (Says (by_cases kinds literals s bound at).answer) (trimmed_verdict s.trim kinds literals lent_accepted)
        (decide_says s bound (length kinds) by_run kinds first (state at no_runs) first_accepted))

    accepted_tells : Tells (reply_of (accepted_ending kinds literals settings cases bound found).result.outcome.answer) (verdict kinds literals)
    unfolding accepted_ending
    accepted_tells = by_test (is_verdict (studied kinds literals settings found).result.outcome.answer || eqb (length cases) 0)
      where
        by_test : (b : Bool)
            → Tells (reply_of (cond b (study_ending (studied kinds literals settings found)) (told_ending (length settings / 4) (by_cases kinds literals s bound (studied kinds literals settings found).areas_left))).result.outcome.answer) (verdict kinds literals)
        by_test true = study_tells
        by_test false = cases_tell (studied kinds literals settings found).areas_left

    module _ (some_cases : length cases ≡ 0 → ⊥) (no_bound : bound ≡ 0) where
      pub some_round : eqb s.limit 0 ≡ false
      unfolding cases_cause
      some_round =
          let told =
          of_cases (eqb (length cases) 0) (eqb (length cases) 4) (any unknown (settings_of cases)) (any no_round (settings_of cases)) (both_causes no_cause).1
          (ne_eqb (length cases) 0 some_cases) in
          of_four cases (eqb-true (length cases) 4 told.0) told.1

      cases_answer : (at : Areas) → Fits at → is_verdict (answer_told (by_cases kinds literals s bound at).answer) ≡ true
      unfolding by_cases
      cases_answer at fits =
          let a = decide_answers s some_round (length kinds) by_run kinds first (state at no_runs) first_accepted fits in
          ap (λ (b : ℕ). is_verdict (answer_told (decide_by s b (length kinds) by_run kinds first (state at no_runs)).answer)) no_bound
          ∙ ap (λ (o : Option Bool). is_verdict (answer_told o)) a.answer_so ∙ told_verdict a.value

      accepted_answers : is_verdict (accepted_ending kinds literals settings cases bound found).result.outcome.answer ≡ true
      unfolding accepted_ending
      accepted_answers =
          by_test (is_verdict (studied kinds literals settings found).result.outcome.answer) refl
        where
          by_test : (b : Bool) → is_verdict (studied kinds literals settings found).result.outcome.answer ≡ b
              → is_verdict (cond (b || eqb (length cases) 0) (study_ending (studied kinds literals settings found)) (told_ending (length settings / 4) (by_cases kinds literals s bound (studied kinds literals settings found).areas_left))).result.outcome.answer ≡ true
          by_test true e = e
          by_test false e =
              ap (λ (b : Bool). is_verdict (cond b (study_ending (studied kinds literals settings found)) (told_ending (length settings / 4) (by_cases kinds literals s bound (studied kinds literals settings found).areas_left))).result.outcome.answer)
              (ne_eqb (length cases) 0 some_cases)
              ∙ cases_answer (studied kinds literals settings found).areas_left study_fits

  tells : Tells (reply_of (decided kinds literals settings cases bound found).result.outcome.answer) (verdict kinds literals)
  unfolding decided
  tells = by_test (eqb stops 0) refl
    where
      by_test : (b : Bool) → eqb stops 0 ≡ b
          → Tells (reply_of (cond b (accepted_ending kinds literals settings cases bound found) (ending (refusal stops) 0 0 0 found)).result.outcome.answer) (verdict kinds literals)
      by_test true e = accepted_tells (eqb-true stops 0 e)
      by_test false e = tt

  answers : stops ≡ 0 → (length cases ≡ 0 → ⊥) → bound ≡ 0 → is_verdict (decided kinds literals settings cases bound found).result.outcome.answer ≡ true
  unfolding decided
  answers no_cause some_cases no_bound =
      ap (λ (b : Bool). is_verdict (cond b (accepted_ending kinds literals settings cases bound found) (ending (refusal stops) 0 0 0 found)).result.outcome.answer) (eq-eqb stops 0 no_cause)
      ∙ accepted_answers no_cause some_cases no_bound

  pub cases_right : CasesRight kinds literals settings cases bound found
  cases_right =
      record {
        only_true = λ e. subst (λ (a : Answer). Tells (reply_of a) (verdict kinds literals)) e tells;
        only_false = λ e. subst (λ (a : Answer). Tells (reply_of a) (verdict kinds literals)) e tells;
        always = λ no_cause some_cases no_bound. verdict_answer (verdict kinds literals) _ tells (answers no_cause some_cases no_bound);
      }
