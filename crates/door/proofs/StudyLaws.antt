-- From what the reader and `decide` of a study promise to what `vulzhenn_study` returns and leaves, and what that says. Assumes nothing.
use Prim.Native.Nat.{ℕ, ◌+◌, ◌≤◌}
use native.Mathlib.Omega.{arith}
use mathlib.Core.Path.{◌≡◌, refl, sym, ap, subst, ◌∙◌}
use mathlib.Core.Bool.{Bool, true, false, cond}
use mathlib.Core.List.{List, []}
use borrow.Author.Tests.{eqb-true}
use lib.Dec.{eqb}
use lib.IntN.{ℤ}
use lib.ListN.{length, take, replicate}
use Rattle.formula.specs.Formula.{max_unknowns, max_entries, work_size}
use Rattle.rounds.specs.Run.{Answer as RunAnswer, is_false, number}
use Rattle.engine.specs.declared.run.Answer.{Answer}
use Rattle.engine.specs.declared.run.Answer.TheVariants.{False, True, Spent, NoRoomUniversal, NoRoomExistential, Refused}
use Rattle.engine.specs.Outcome.{given, refusal, cause as run_cause}
use Rattle.engine.specs.Numbers.{one_number}
use Rattle.text.specs.Reading.{Read, Result, taken, refused, text_read}
use Rattle.text.proofs.TextLaws.{Results, Passes, read_passes}
use Rattle.text.proofs.FrontLaws.{Front}
use Rattle.study.specs.declared.Studied.{Studied}
use Rattle.study.specs.Study.{settings_of, list_cause, cause, ending, in_turn, studied}
use Rattle.study.proofs.StudyRight.{study_right}
use Rattle.study_answer.specs.House.{house_list, own_areas, house_study, Decided}
use Rattle.study_answer.proofs.HouseLaws.{list_fine, cause_left}
use Rattle.door.specs.Numbers.{Verdict}
use Rattle.door.specs.Study.{study_number, study_left, study_number_back, study_work_back, study_answer, study_work, StudyNumbersRight}
use Rattle.door.proofs.NumberLaws.{number_named, number_small, cause_small}
use Rattle.door.proofs.DoorLaws.{refused_of_text}

-- ---- the number fits

house_cause_small : (n : ℕ) → n ≤ 16 → cond (eqb n 0) (list_cause house_list) n ≤ 16
house_cause_small n small = go (eqb n 0)
  where
    go : (b : Bool) → cond b (list_cause house_list) n ≤ 16
    go true = omega (arith, list_fine)
    go false = small

cause_few : (kinds : List ℕ) (literals : List ℤ) (work : List ℕ) → cause kinds literals house_list (own_areas work) ≤ 16
unfolding cause
cause_few kinds literals work =
    let g = given kinds literals [] (own_areas work) 1 0 in
    house_cause_small (run_cause g) (cause_small g)

module _ (kinds : List ℕ) (literals : List ℤ) (work : List ℕ) where
  -- After a refusal the number is that of the cause.
  refused_so : eqb (cause kinds literals house_list (own_areas work)) 0 ≡ false → study_number kinds literals work ≡ 100 + cause kinds literals house_list (own_areas work)
  unfolding studied
  refused_so e = rw e refl

  refused_area : eqb (cause kinds literals house_list (own_areas work)) 0 ≡ false → study_left kinds literals work ≡ work
  unfolding studied
  refused_area e =
      ap (λ (b : Bool).
      (cond b (in_turn kinds literals (settings_of house_list) 0 (own_areas work)) (ending (refusal (cause kinds literals house_list (own_areas work))) 0 (own_areas work))).areas_left.work) e

  pub number_fits : {r : Studied} {work' : List ℕ} → Decided kinds literals work r work' → one_number r.outcome.answer ≤ 116
  number_fits {r} d = go (eqb (cause kinds literals house_list (own_areas work)) 0) refl
    where
      go : (b : Bool) → eqb (cause kinds literals house_list (own_areas work)) 0 ≡ b → one_number r.outcome.answer ≤ 116
      go true e =
          let a = d.answered (eqb-true (cause kinds literals house_list (own_areas work)) 0 e) in
          omega (arith, ap one_number a.answer_so ∙ number_named a.answer, number_small a.answer)
      go false e =
          omega (arith, ap (λ (x : Studied). one_number x.outcome.answer) d.result_so, refused_so e, cause_few kinds literals work)

-- ---- what the number says

true_if_one : (a : Answer) → one_number a ≡ 1 → a ≡ True
true_if_one False e = absurd (omega arith)
true_if_one True e = refl
true_if_one Spent e = absurd (omega arith)
true_if_one NoRoomUniversal e = absurd (omega arith)
true_if_one NoRoomExistential e = absurd (omega arith)
true_if_one (Refused n) e = absurd (omega arith)

false_if_zero : (a : Answer) → one_number a ≡ 0 → a ≡ False
false_if_zero False e = refl
false_if_zero True e = absurd (omega arith)
false_if_zero Spent e = absurd (omega arith)
false_if_zero NoRoomUniversal e = absurd (omega arith)
false_if_zero NoRoomExistential e = absurd (omega arith)
false_if_zero (Refused n) e = absurd (omega arith)

module _ (text work : List ℕ) where
  by_true : (result : Result) → text_read text ≡ result → study_number_back result work ≡ 1 → Verdict text true
  by_true (refused n line) e one = let z : 100 + n ≡ 1 = one in absurd (omega arith)
  by_true (taken s) e one =
      record {
        formula = s;
        read_so = e;
        right = (study_right s.kinds s.literals house_list (own_areas work)).only_true (true_if_one (house_study s.kinds s.literals work).result.outcome.answer one);
      }

  by_false : (result : Result) → text_read text ≡ result → study_number_back result work ≡ 0 → Verdict text false
  by_false (refused n line) e none = let z : 100 + n ≡ 0 = none in absurd (omega arith)
  by_false (taken s) e none =
      record {
        formula = s;
        read_so = e;
        right = (study_right s.kinds s.literals house_list (own_areas work)).only_false (false_if_zero (house_study s.kinds s.literals work).result.outcome.answer none);
      }

  -- A text that is taken: the study is refused for 5 or answers as a run does.
  module _ (s : Read) (e : text_read text ≡ taken s) where
    abbrev stops : ℕ
    stops = cause s.kinds s.literals house_list (own_areas work)

    stops_so : stops ≡ cond (eqb (length work) work_size) 0 5
    stops_so =
        cause_left house_list list_fine s.kinds s.literals work
        (subst (Results Passes) e (read_passes text max_unknowns max_entries max_unknowns)).accepted

    answer_so : study_answer text work ≡ study_number s.kinds s.literals work
    unfolding study_answer
    answer_so = ap (λ (r : Result). study_number_back r work) e

    left_so : study_work text work ≡ study_left s.kinds s.literals work
    unfolding study_work
    left_so = ap (λ (r : Result). study_work_back r work) e

    -- An answer, by what the study promises of one that is not refused.
    answered_so : stops ≡ 0 → (a : RunAnswer) × (study_answer text work ≡ number a) × (study_work text work ≡ replicate work_size 0)
    answered_so none =
        let right = study_right s.kinds s.literals house_list (own_areas work) in
        let a = right.answered none in
        (a.0, answer_so ∙ ap one_number a.1 ∙ number_named a.0, left_so ∙ right.area none)

    five_so : stops ≡ 5 → (study_answer text work ≡ 105) × (study_work text work ≡ work)
    five_so five =
        let some_cause = ap (λ (n : ℕ). eqb n 0) five in
        (answer_so ∙ refused_so s.kinds s.literals work some_cause ∙ ap (λ (n : ℕ). 100 + n) five, left_so ∙ refused_area s.kinds s.literals work some_cause)

    of_study : (a : RunAnswer) × (study_answer text work ≡ cond (eqb (length work) work_size) (number a) 105)
    of_study = go (eqb (length work) work_size) stops_so
      where
        go : (b : Bool) → stops ≡ cond b 0 5 → (a : RunAnswer) × (study_answer text work ≡ cond b (number a) 105)
        go true none = let a = answered_so none in (a.0, a.1)
        go false five = (is_false, (five_so five).0)

    taken_zero : study_answer text work ≤ 4 → study_work text work ≡ replicate work_size 0
    taken_zero small = go (eqb (length work) work_size) stops_so
      where
        go : (b : Bool) → stops ≡ cond b 0 5 → study_work text work ≡ replicate work_size 0
        go true none = (answered_so none).2
        go false five = absurd (omega (arith, (five_so five).0))

    taken_found : 100 ≤ study_answer text work → study_work text work ≡ work
    taken_found large = go (eqb (length work) work_size) stops_so
      where
        go : (b : Bool) → stops ≡ cond b 0 5 → study_work text work ≡ work
        go true none = let a = answered_so none in absurd (omega (arith, a.1, number_small a.0))
        go false five = (five_so five).1

  -- A text that is refused.
  refused_number : (n line : ℕ) → text_read text ≡ refused n line → study_answer text work ≡ 100 + n
  unfolding study_answer
  refused_number n line e = ap (λ (r : Result). study_number_back r work) e

  refused_left : (n line : ℕ) → text_read text ≡ refused n line → study_work text work ≡ work
  unfolding study_work
  refused_left n line e = ap (λ (r : Result). study_work_back r work) e

  by_reading : {P : Type 0} → ((s : Read) → text_read text ≡ taken s → P) → ((n line : ℕ) → text_read text ≡ refused n line → P) → P
  by_reading {P} when_taken when_refused = go (text_read text) refl
    where
      go : (r : Result) → text_read text ≡ r → P
      go (taken s) e = when_taken s e
      go (refused n line) e = when_refused n line e

  pub study_numbers : StudyNumbersRight text work
  unfolding study_answer
  study_numbers =
      record {
        of_text = λ n line e. let of = refused_of_text text n line e in (refused_number n line e, of.from_9, of.to_14, of.not_13);
        of_study = of_study;
        zero_after = λ small. by_reading (λ s e. taken_zero s e small) (λ n line e. absurd (omega (arith, refused_number n line e)));
        as_found = λ large. by_reading (λ s e. taken_found s e large) (λ n line e. refused_left n line e);
        only_true = by_true (text_read text) refl;
        only_false = by_false (text_read text) refl;
      }

  -- The text is refused.
  pub refused_study : (n line : ℕ) → text_read text ≡ refused n line
      → (100 + n ≡ study_answer text work) × ((work ≡ study_work text work) × StudyNumbersRight text work)
  unfolding study_answer study_work
  refused_study n line e =
      (ap (λ (r : Result). study_number_back r work) (sym e), (ap (λ (r : Result). study_work_back r work) (sym e), study_numbers))

  -- The text is taken.
  pub taken_study : {u e v c : ℕ} {kinds : List ℕ} {literals : List ℤ} {r : ℕ} {work' : List ℕ}
      → Front (text_read text) u e v c kinds literals
      → (r ≡ study_number (take u kinds) (take e literals) work) × (work' ≡ study_left (take u kinds) (take e literals) work)
      → (r ≡ study_answer text work) × ((work' ≡ study_work text work) × StudyNumbersRight text work)
  unfolding study_answer study_work
  taken_study {u} {e} {kinds = kinds} {literals = literals} {r = r} {work' = work'} f d =
      let d' : (r ≡ study_number f.formula.kinds f.formula.literals work) × (work' ≡ study_left f.formula.kinds f.formula.literals work) = rw (f.kinds_front, f.literals_front) at d in (
        d'.0 ∙ ap (λ (r : Result). study_number_back r work) (sym f.whole),
        (d'.1 ∙ ap (λ (r : Result). study_work_back r work) (sym f.whole), study_numbers),
      )
