-- The theorem on studies: the answer of every run that is made is the verdict of the lent formula, and a run that is promised the verdict gives it.
-- Assumes nothing.
use Prim.Native.Nat.{ℕ, zero, suc, ◌/◌, ◌^◌, ◌≤◌}
use native.Mathlib.Omega.{arith}
use mathlib.Core.Path.{◌≡◌, refl, sym, ap, subst, ◌∙◌}
use mathlib.Core.Bool.{Bool, true, false, ◌||◌, cond, true≢false}
use mathlib.Core.List.{List, [], ◌∷◌}
use mathlib.Core.Option.{some, none-ne-some}
use lib.Dec.{eqb}
use lib.IntN.{ℤ}
use lib.ListN.{length, get_elem?, replicate}
use borrow.Author.Tests.{eq-eqb, ne_eqb, eqb-true}
use Rattle.formula.specs.Formula.{work_size, existential, universal, prefix}
use Rattle.formula.specs.Causes.{count}
use Rattle.formula.specs.Meaning.{meaning, verdict}
use Rattle.trimming_rules.specs.Proved.{Proved}
use Rattle.rounds.specs.Run.{is_false, is_true, spent, no_room_universal, no_room_existential, Answer as RunAnswer}
use Rattle.rounds.specs.Claim.{answer_of as run_answer_of, most_with}
use Rattle.rounds.proofs.Claim.{claim}
use Rattle.rounds.proofs.Verdict.{verdict_right}
use Rattle.engine.specs.declared.run.Answer.{Answer}
use Rattle.engine.specs.declared.run.Answer.TheVariants.{False, True, Spent, NoRoomUniversal, NoRoomExistential, Refused}
use Rattle.engine.specs.Outcome.{Areas, Given, lent, cause as run_cause, reached, named, reported, refusal, returned, after, left}
use Rattle.study.specs.declared.Setting.{Setting}
use Rattle.study.specs.Study.{settings_of, formula_of, preferences_of, given_of, cause, Ending, ending, is_verdict, in_turn, studied}
use Rattle.study.specs.StudyRight.{answer_of, Promised, StudyRight}
use Rattle.study.specs.Private.Turns.{SameSizes}
use Rattle.study.proofs.SettingLaws.{length_settings}
use Rattle.study.proofs.CauseLaws.{some_setting, list_passes, each_accepted, trimming_proved, limit_if_none}
use Rattle.study.proofs.SizeLaws.{same_cause, left_sizes}

-- An answer is a verdict only if it is this one.
pub record Right (v : Bool) (a : Answer) : Type 0 where
  pub only_true : a ≡ True → v ≡ true
  pub only_false : a ≡ False → v ≡ false

right_if_none : (v : Bool) (a : Answer) → is_verdict a ≡ false → Right v a
right_if_none v a none =
    record {
      only_true = λ e. absurd (true≢false (sym (ap is_verdict e) ∙ none));
      only_false = λ e. absurd (true≢false (sym (ap is_verdict e) ∙ none));
    }

as_verdict : (v : Bool) (a : Answer) → Right v a → is_verdict a ≡ true → a ≡ answer_of v
as_verdict v True r e = sym (ap answer_of (r.only_true refl))
as_verdict v False r e = sym (ap answer_of (r.only_false refl))
as_verdict v Spent r e = absurd (true≢false (sym e))
as_verdict v NoRoomUniversal r e = absurd (true≢false (sym e))
as_verdict v NoRoomExistential r e = absurd (true≢false (sym e))
as_verdict v (Refused n) r e = absurd (true≢false (sym e))

-- ---- one run

right_named : (v : Bool) (a : RunAnswer) → (a ≡ is_true → v ≡ true) → (a ≡ is_false → v ≡ false) → Right v (named a)
right_named v is_false t f = record { only_true = λ e. let z : ◌≡◌ {A = ℕ} 0 1 = cc e in absurd (omega arith); only_false = λ _. f refl }
right_named v is_true t f = record { only_true = λ _. t refl; only_false = λ e. let z : ◌≡◌ {A = ℕ} 0 1 = cc e in absurd (omega arith) }
right_named v spent t f = right_if_none v Spent refl
right_named v no_room_universal t f = right_if_none v NoRoomUniversal refl
right_named v no_room_existential t f = right_if_none v NoRoomExistential refl

named_verdict : (v : Bool) → is_verdict (named (run_answer_of v)) ≡ true
named_verdict true = refl
named_verdict false = refl

module _ (g : Given) (none : run_cause g ≡ 0) where
  pub answered : (returned g).answer ≡ named (reached g).answer
  unfolding returned
  answered = ap (λ (b : Bool). (cond b (reported (prefix g.kinds) (reached g)) (refusal (run_cause g))).answer) (eq-eqb (run_cause g) 0 none)

  run_right : Right (verdict g.kinds g.literals) (returned g).answer
  unfolding verdict
  run_right =
      let right = verdict_right (lent g) g.limit in
      subst (Right (verdict g.kinds g.literals)) (sym answered)
      (right_named (verdict g.kinds g.literals) (reached g).answer right.only_true right.only_false)

-- ---- runs in turn

choose : (v b : Bool) (x y : Ending) → Right v x.result.outcome.answer → Right v y.result.outcome.answer
    → Right v (cond b x y).result.outcome.answer
choose v true x y on_x on_y = on_x
choose v false x y on_x on_y = on_y

-- Where the first of two gives no verdict and is not the last, the second does.
settled : (v last : Bool) (x y : Ending) → is_verdict x.result.outcome.answer ≡ v → last ≡ false → is_verdict y.result.outcome.answer ≡ true
    → is_verdict (cond (v || last) x y).result.outcome.answer ≡ true
settled true last x y on_x e on_y = on_x
settled false last x y on_x e on_y = ap (λ (b : Bool). is_verdict (cond b x y).result.outcome.answer) e ∙ on_y

not_empty : (ss : List Setting) (j : ℕ) (s : Setting) → get_elem? ss j ≡ some s → eqb (length ss) 0 ≡ false
not_empty [] j s there = absurd (none-ne-some s there)
not_empty (x ∷ ss) j s there = ne_eqb (suc (length ss)) 0 (λ z. omega arith)

module _ (kinds : List ℕ) (literals : List ℤ) (trimming : Proved kinds literals) where
  -- The runs of all settings are accepted.
  abbrev pub Accepts : List Setting → Areas → Type 0
  Accepts ss found = (i : ℕ) (s : Setting) → get_elem? ss i ≡ some s → run_cause (given_of kinds literals s found) ≡ 0

  formula_verdict : (n : ℕ) → verdict kinds (formula_of n kinds literals) ≡ verdict kinds literals
  formula_verdict zero = refl
  formula_verdict (suc n) = trimming.verdict_kept

  most_same : (s : Setting) (a b : Areas) (k : ℕ) → most_with k (lent (given_of kinds literals s a)) ≡ most_with k (lent (given_of kinds literals s b))
  most_same s a b zero = refl
  most_same s a b (suc k) = refl

  still_promised : (s : Setting) (a b : Areas) → SameSizes b a → Promised kinds literals a s → Promised kinds literals b s
  still_promised s a b same p =
      record {
        universal_rows = subst (λ (n : ℕ). 2 ^ count universal (prefix kinds) ≤ n / 16) (sym same.universal_rows) p.universal_rows;
        existential_rows = subst (λ (n : ℕ). 2 ^ count existential (prefix kinds) ≤ n / 16) (sym same.existential_rows) p.existential_rows;
        rounds = subst (λ (n : ℕ). n ≤ s.limit) (most_same s a b s.clearing) p.rounds;
      }

  module _ (s : Setting) (found : Areas) (none : run_cause (given_of kinds literals s found) ≡ 0) where
    setting_right : Right (verdict kinds literals) (returned (given_of kinds literals s found)).answer
    setting_right =
        subst (λ (v : Bool). Right v (returned (given_of kinds literals s found)).answer) (formula_verdict s.trim) (run_right (given_of kinds literals s found) none)

    promised_verdict : Promised kinds literals found s → is_verdict (returned (given_of kinds literals s found)).answer ≡ true
    promised_verdict p =
        let l = lent (given_of kinds literals s found) in
        let holds = claim l s.limit (limit_if_none (given_of kinds literals s found) none) in
        ap is_verdict (answered (given_of kinds literals s found) none ∙ ap named (holds.decided p.universal_rows p.existential_rows p.rounds))
        ∙ named_verdict (meaning l.ks l.phi)

  pub later_accepts : (s : Setting) (rest : List Setting) (found : Areas) → Accepts (s ∷ rest) found → Accepts rest (left (given_of kinds literals s found))
  later_accepts s rest found accepts i t there =
      let g = given_of kinds literals s found in
      same_cause kinds (formula_of t.trim kinds literals) (preferences_of t.preference) (left g) found t.limit t.clearing (left_sizes g (accepts zero s refl))
      ∙ accepts (suc i) t there

  turns_right : (ss : List Setting) (i : ℕ) (found : Areas) → Accepts ss found
      → Right (verdict kinds literals) (in_turn kinds literals ss i found).result.outcome.answer
  unfolding in_turn
  turns_right [] i found accepts = right_if_none (verdict kinds literals) (Refused 26) refl
  turns_right (s ∷ rest) i found accepts =
      let g = given_of kinds literals s found in
      choose (verdict kinds literals) (is_verdict (returned g).answer || eqb (length rest) 0) (ending (returned g) i (left g))
      (in_turn kinds literals rest (suc i) (left g))
      (setting_right s found (accepts zero s refl))
      (turns_right rest (suc i) (left g) (later_accepts s rest found accepts))

  turns_decided : (ss : List Setting) (i : ℕ) (found : Areas) → Accepts ss found → (j : ℕ) (s : Setting) → get_elem? ss j ≡ some s
      → Promised kinds literals found s → is_verdict (in_turn kinds literals ss i found).result.outcome.answer ≡ true
  unfolding in_turn
  turns_decided [] i found accepts j s there p = absurd (none-ne-some s there)
  turns_decided (t ∷ rest) i found accepts zero s there p =
      let same : t ≡ s = cc in
      let g = given_of kinds literals t found in
      let here = promised_verdict t found (accepts zero t refl) (subst (Promised kinds literals found) (sym same) p) in
      ap (λ (b : Bool). is_verdict (cond (b || eqb (length rest) 0) (ending (returned g) i (left g)) (in_turn kinds literals rest (suc i) (left g))).result.outcome.answer) here
      ∙ here
  turns_decided (t ∷ rest) i found accepts (suc j) s there p =
      let g = given_of kinds literals t found in
      settled (is_verdict (returned g).answer) (eqb (length rest) 0) (ending (returned g) i (left g)) (in_turn kinds literals rest (suc i) (left g)) refl
      (not_empty rest j s there)
      (turns_decided rest (suc i) (left g) (later_accepts t rest found accepts) j s there (still_promised s found (left g) (left_sizes g (accepts zero t refl)) p))

-- ---- how the last run leaves a study

-- An answer of a run, and a work area of zeros.
record Over (e : Ending) : Type 0 where
  answer : RunAnswer
  answer_so : e.result.outcome.answer ≡ named answer
  zero_work : e.areas_left.work ≡ replicate work_size 0

choose_over : (b : Bool) {x y : Ending} → (b ≡ true → Over x) → (b ≡ false → Over y) → Over (cond b x y)
choose_over true on_x on_y = on_x refl
choose_over false on_x on_y = on_y refl

-- Where a study goes on a setting is left.
some_left : (v : Bool) (rest : List Setting) → (v || eqb (length rest) 0) ≡ false → 1 ≤ length rest
some_left true rest e = absurd (true≢false e)
some_left false [] e = absurd (true≢false e)
some_left false (s ∷ rest) e = omega arith

zero_after : (g : Given) → run_cause g ≡ 0 → (left g).work ≡ replicate work_size 0
unfolding left
zero_after g none = ap (λ (b : Bool). (cond b (after g g.limit) g.found).work) (eq-eqb (run_cause g) 0 none)

module _ (kinds : List ℕ) (literals : List ℤ) (trimming : Proved kinds literals) where
  turns_over : (ss : List Setting) (i : ℕ) (found : Areas) → Accepts kinds literals trimming ss found → 1 ≤ length ss → Over (in_turn kinds literals ss i found)
  unfolding in_turn
  turns_over [] i found accepts some_setting = absurd (omega (arith, some_setting))
  turns_over (s ∷ rest) i found accepts some_setting =
      let g = given_of kinds literals s found in
      let none = accepts zero s refl in
      choose_over (is_verdict (returned g).answer || eqb (length rest) 0)
      (λ _. record { answer = (reached g).answer; answer_so = answered g none; zero_work = zero_after g none })
      (λ more.
      turns_over rest (suc i) (left g) (later_accepts kinds literals trimming s rest found accepts) (some_left (is_verdict (returned g).answer) rest more))

-- ---- the theorem

module _ (kinds : List ℕ) (literals : List ℤ) (settings : List ℕ) (found : Areas) where
  abbrev stops : ℕ
  stops = cause kinds literals settings found

  right : Right (verdict kinds literals) (studied kinds literals settings found).result.outcome.answer
  unfolding studied
  right = by_cause (eqb stops 0) refl
    where
      by_cause : (b : Bool) → eqb stops 0 ≡ b
          → Right (verdict kinds literals) (cond b (in_turn kinds literals (settings_of settings) 0 found) (ending (refusal stops) 0 found)).result.outcome.answer
      by_cause true e =
          let none : stops ≡ 0 = eqb-true stops 0 e in
          turns_right kinds literals (trimming_proved kinds literals settings found none) (settings_of settings) 0 found (each_accepted kinds literals settings found none)
      by_cause false e = right_if_none (verdict kinds literals) (Refused stops) refl

  gives_verdict : stops ≡ 0 → (i : ℕ) (s : Setting) → get_elem? (settings_of settings) i ≡ some s → Promised kinds literals found s
      → is_verdict (studied kinds literals settings found).result.outcome.answer ≡ true
  unfolding studied
  gives_verdict none i s there p =
      ap (λ (b : Bool). is_verdict (cond b (in_turn kinds literals (settings_of settings) 0 found) (ending (refusal stops) 0 found)).result.outcome.answer) (eq-eqb stops 0 none)
      ∙ turns_decided kinds literals (trimming_proved kinds literals settings found none) (settings_of settings) 0 found (each_accepted kinds literals settings found none) i s there p

  over : stops ≡ 0 → Over (studied kinds literals settings found)
  unfolding studied
  over none =
      subst (λ (b : Bool). Over (cond b (in_turn kinds literals (settings_of settings) 0 found) (ending (refusal stops) 0 found))) (sym (eq-eqb stops 0 none))
      (turns_over kinds literals (trimming_proved kinds literals settings found none) (settings_of settings) 0 found (each_accepted kinds literals settings found none)
      (subst (λ (n : ℕ). 1 ≤ n) (sym (length_settings settings)) (some_setting settings (list_passes kinds literals settings found none))))

  pub study_right : StudyRight kinds literals settings found
  study_right =
      record {
        only_true = right.only_true;
        only_false = right.only_false;
        decided = λ none i s there p. as_verdict (verdict kinds literals) _ right (gives_verdict none i s there p);
        answered = λ none. let o = over none in (o.answer, o.answer_so);
        area = λ none. (over none).zero_work;
      }
