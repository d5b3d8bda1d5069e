-- What printed lines say, for every text. Assumes nothing.
use Prim.Native.Nat.{ℕ, zero, suc, ◌≤◌, ◌<◌}
use Rattle.std.specs.Prelude.{Ok}
use native.Mathlib.Omega.{arith}
use mathlib.Core.Path.{◌≡◌, refl, sym, ap, subst, ◌∙◌}
use mathlib.Core.Logic.{◌⊎◌, inl, inr}
use mathlib.Core.Bool.{Bool, true, false, not, cond}
use mathlib.Core.List.{List, ◌++◌, append_assoc}
use mathlib.Core.Option.{some, none-ne-some}
use Prim.Native.String.{String}
use lib.Dec.{eqb}
use lib.IntN.{ℤ}
use lib.ListN.{length, get_elem?, replicate, length-replicate}
use lib.Seq.{length-take-le}
use Rattle.formula.specs.Formula.{max_unknowns, max_entries, max_rows, work_size, universal, existential, prefix, clauses}
use Rattle.formula.specs.Causes.{checked, sizes}
use Rattle.rounds.specs.Run.{Answer, is_false, is_true, spent, no_room_universal, no_room_existential, number, Outcome as RunOutcome}
use Rattle.rounds.proofs.RunLaws.{run_reached}
use Rattle.rounds.proofs.Bounds.{count_in_room}
use Rattle.lines.specs.Lines.{Bytes}
use Rattle.text.specs.declared.Form.{Form}
use Rattle.text.specs.Reading.{Read, Result, taken, refused, read_gates, read_as}
use Rattle.text.specs.Form.{has_gates, form_read}
use Rattle.text.proofs.ReadAsLaws.{reading_passes, reading_line, reading_number}
use Rattle.text.proofs.GatesPass.{GatesResults, gates_pass}
use Rattle.engine.specs.declared.run.Answer.{Answer as Named}
use Rattle.engine.specs.declared.run.Answer.TheVariants.{NoRoomUniversal, NoRoomExistential}
use Rattle.engine.specs.declared.run.Outcome.{Outcome}
use Rattle.engine.specs.Outcome.{named, number_of, reported}
use Rattle.engine.proofs.run.OutcomeLaws.{number_named}
use Rattle.report.specs.Report.{line_one, line_two, result_lines, refusal_line}
use Rattle.report.specs.Studied.{setting_line, study_lines}
use Rattle.study.specs.declared.Setting.{Setting}
use Rattle.study.specs.Study.{Ending as StudyEnding, settings_of, unknown, cause_26, list_cause, cause}
use Rattle.decision.specs.declared.Decision.{Decision}
use Rattle.decision.specs.Decision.{own_lent}
use Rattle.decision.specs.Settings.{round_limit, one_run, default_settings, own_areas}
use Rattle.decision.specs.Deciding.{of_study, decided, front}
use Rattle.decision.specs.DecisionRight.{DecisionRight}
use Rattle.decision.proofs.DecisionLaws.{cause_so, returned_so}
use Rattle.decision.proofs.DecisionRight.{decision_right}
use Rattle.decision.proofs.OneRun.{one_study}
use Rattle.decision.proofs.WorkLaws.{same_decision}
use Rattle.decision_lines.specs.Lines.{is_refusal, result_of, study_of, decision_in, decision_of, printed, study_printed}
use Rattle.decision_lines.specs.LinesRight.{Begins, LinesRight, settled, AnswerRight, StudyAnswerRight}
use Rattle.decision_lines.proofs.PrintedLaws.{result_short, refusal_short, study_short, refusal_short_study, refusal_begins, refusal_not_true, refusal_not_false, refusal_not_undecided, Lines, true_begins, false_begins, no_room_universal_begins, no_room_existential_begins, result_no_refusal, true_if_1, false_if_0, not_settled_if_minus}

-- ---- the causes that are left

abbrev zeros : List ℕ
zeros = replicate work_size 0

whole : eqb (length zeros) work_size ≡ true
whole = ap (λ (n : ℕ). eqb n work_size) (length-replicate {A = ℕ} work_size 0)

no_cause : (list : List ℕ) → list_cause list ≡ 0 → (kinds : List ℕ) (literals : List ℤ) → checked kinds literals ≡ Ok (sizes kinds literals)
    → cause kinds literals list (own_areas zeros) ≡ 0
unfolding cause
no_cause list fine kinds literals passes =
    ap (λ (n : ℕ). cond (eqb n 0) (list_cause list) n) (cause_so kinds literals zeros 1 passes ∙ ap (λ (long : Bool). cond (not long) 5 0) whole) ∙ fine

run_fine : list_cause (one_run round_limit) ≡ 0
unfolding list_cause cause_26 settings_of unknown
run_fine = refl

study_fine : list_cause default_settings ≡ 0
unfolding list_cause cause_26 settings_of unknown
study_fine = refl

many_in_run : (i : ℕ) (s : Setting) → get_elem? (settings_of (one_run round_limit)) i ≡ some s → max_rows < s.limit
unfolding settings_of
many_in_run zero s e = let same : 1000 ≡ s.limit = cc e in omega (arith, same)
many_in_run (suc i) s e = absurd (none-ne-some s e)

many_in_study : (i : ℕ) (s : Setting) → get_elem? (settings_of default_settings) i ≡ some s → max_rows < s.limit
unfolding settings_of
many_in_study zero s e = let same : 1000 ≡ s.limit = cc e in omega (arith, same)
many_in_study (suc zero) s e = let same : 1000 ≡ s.limit = cc e in omega (arith, same)
many_in_study (suc (suc zero)) s e = let same : 1000 ≡ s.limit = cc e in omega (arith, same)
many_in_study (suc (suc (suc zero))) s e = let same : 1000 ≡ s.limit = cc e in omega (arith, same)
many_in_study (suc (suc (suc (suc i)))) s e = absurd (none-ne-some s e)

-- ---- the lines of a decision

not_refusal : (a : Answer) → is_refusal (named a) ≡ false
not_refusal is_false = refl
not_refusal is_true = refl
not_refusal spent = refl
not_refusal no_room_universal = refl
not_refusal no_room_existential = refl

module _ (form : Form) (text : Bytes) (settings : List ℕ) (fine : list_cause settings ≡ 0)
    (many : (i : ℕ) (s : Setting) → get_elem? (settings_of settings) i ≡ some s → max_rows < s.limit) where
  abbrev d : Decision
  d = decision_of form text settings

  abbrev right : DecisionRight form text max_unknowns max_entries max_unknowns settings (own_areas zeros)
  right = decision_right form text max_unknowns max_entries max_unknowns settings (own_areas zeros)

  pub by_reading : {P : Type 0} → ((r : Read) → form_read form text ≡ taken r → P) → ((n line : ℕ) → form_read form text ≡ refused n line → P) → P
  by_reading {P} when_taken when_refused = go (form_read form text) refl
    where
      go : (x : Result) → form_read form text ≡ x → P
      go (taken r) e = when_taken r e
      go (refused n line) e = when_refused n line e

  module _ (others bytes : List ℕ) (most : ℕ) (short : length bytes ≤ most)
      (is_bytes : bytes ≡ cond (is_refusal d.answer) (refusal_line (number_of d.answer) d.line) (line_one (number_of d.answer) d.variables d.clauses ++ others)) where
    module _ (n line : ℕ) (e : form_read form text ≡ refused n line) where
      refused_bytes : bytes ≡ refusal_line n line
      refused_bytes =
          is_bytes
          ∙ ap (λ (x : Decision). cond (is_refusal x.answer) (refusal_line (number_of x.answer) x.line) (line_one (number_of x.answer) x.variables x.clauses ++ others))
          (right.of_text n line e).0

      begins_so : (start : String) → Begins bytes start → Begins (refusal_line n line) start
      begins_so start b = subst (λ (l : List ℕ). Begins l start) refused_bytes b

      when_refused : LinesRight form text d most bytes
      when_refused =
          record {
            one_form = inl (subst (λ (l : List ℕ). Begins l "c refused ") (sym refused_bytes) (refusal_begins n line));
            short = short;
            refusal = λ _. record { n = n; line = line; read_so = e; known = (right.of_text n line e).1; printed_so = refused_bytes };
            only_true = λ b. absurd (refusal_not_true n line (begins_so "s cnf 1 " b));
            only_false = λ b. absurd (refusal_not_false n line (begins_so "s cnf 0 " b));
            undecided = λ b. absurd (refusal_not_undecided n line (begins_so "s cnf -1 " b));
          }

    module _ (r : Read) (e : form_read form text ≡ taken r) (a : Answer) (is_a : d.answer ≡ named a) where
      abbrev lines_by : Answer → List ℕ
      lines_by = Lines d.variables d.clauses others

      taken_bytes : bytes ≡ lines_by a
      taken_bytes =
          is_bytes
          ∙ ap (λ (x : Named). cond (is_refusal x) (refusal_line (number_of x) d.line) (line_one (number_of x) d.variables d.clauses ++ others)) is_a
          ∙ (λ i. cond (not_refusal a i) (refusal_line (number_of (named a)) d.line) (line_one (number_named a i) d.variables d.clauses ++ others))

      begins : (start : String) → Begins bytes start → Begins (lines_by a) start
      begins start b = subst (λ (l : List ℕ). Begins l start) taken_bytes b

      bytes_begin : (b : Answer) (start : String) → a ≡ b → Begins (lines_by b) start → Begins bytes start
      bytes_begin b start is h = subst (λ (l : List ℕ). Begins l start) (ap lines_by (sym is) ∙ sym taken_bytes) h

      not_spent : a ≡ spent → ⊥
      not_spent is = right.never_spent many (is_a ∙ ap named is)

      form_of : (b : Answer) → a ≡ b → Begins bytes "c refused " ⊎ Begins bytes "s cnf 1 " ⊎ Begins bytes "s cnf 0 " ⊎ Begins bytes "s cnf -1 "
      form_of is_true is = inr (inl (bytes_begin is_true "s cnf 1 " is (true_begins _ _ _)))
      form_of is_false is = inr (inr (inl (bytes_begin is_false "s cnf 0 " is (false_begins _ _ _))))
      form_of spent is = absurd (not_spent is)
      form_of no_room_universal is = inr (inr (inr (bytes_begin no_room_universal "s cnf -1 " is (no_room_universal_begins _ _ _))))
      form_of no_room_existential is = inr (inr (inr (bytes_begin no_room_existential "s cnf -1 " is (no_room_existential_begins _ _ _))))

      no_room : (b : Answer) → a ≡ b → (b ≡ is_true → ⊥) × (b ≡ is_false → ⊥) → (d.answer ≡ NoRoomUniversal) ⊎ (d.answer ≡ NoRoomExistential)
      no_room is_true is other = absurd (other.0 refl)
      no_room is_false is other = absurd (other.1 refl)
      no_room spent is other = absurd (not_spent is)
      no_room no_room_universal is other = inl (is_a ∙ ap named is)
      no_room no_room_existential is other = inr (is_a ∙ ap named is)

      when_taken : LinesRight form text d most bytes
      when_taken =
          record {
            one_form = form_of a refl;
            short = short;
            refusal = λ b. absurd (result_no_refusal _ _ _ a (begins "c refused " b));
            only_true = λ b. right.only_true (is_a ∙ ap named (true_if_1 _ _ _ a (begins "s cnf 1 " b)));
            only_false = λ b. right.only_false (is_a ∙ ap named (false_if_0 _ _ _ a (begins "s cnf 0 " b)));
            undecided = λ b. record { formula = r; read_so = e; no_room = no_room a refl (not_settled_if_minus _ _ _ a (begins "s cnf -1 " b)) };
          }

    pub lines_right : LinesRight form text d most bytes
    lines_right =
        by_reading
        (λ r e.
        let passes = reading_passes (has_gates form text) text r e in
        let told = right.answered r e (no_cause settings fine r.kinds r.literals passes.accepted) in
        when_taken r e told.0 told.1)
        when_refused

-- ---- 01's run

module _ (form : Form) (text : Bytes) where
  module _ (r : Read) (e : form_read form text ≡ taken r) where
    abbrev o : RunOutcome
    o = settled r.kinds r.literals

    abbrev of_outcome : Outcome → Decision
    of_outcome x = of_study (length r.kinds) (length r.literals) r.variables r.clauses (record { outcome = x; setting = 0 })

    run_decision : decision_of form text (one_run round_limit) ≡ of_outcome (reported (prefix r.kinds) o)
    run_decision =
        ap (λ (x : Result). (decided x (one_run round_limit) (own_areas zeros)).decision) e
        ∙ ap (λ (x : StudyEnding). of_study (length r.kinds) (length r.literals) r.variables r.clauses x.result)
        (one_study r.kinds r.literals round_limit (own_areas zeros))
        ∙ ap of_outcome (returned_so r.kinds r.literals zeros round_limit (reading_passes (has_gates form text) text r e).accepted whole refl)

    by_run : printed form text ≡ result_lines (number o.answer) r.variables r.clauses o.round (length o.A) (length o.S)
    unfolding printed result_of
    by_run =
        ap result_of run_decision
        ∙ (λ i.
        cond (not_refusal o.answer i) (refusal_line (number_of (named o.answer)) 0)
        (result_lines (number_named o.answer i) r.variables r.clauses o.round (length o.A) (length o.S)))

    taken_short : length (printed form text) ≤ 128
    taken_short =
        let passes = reading_passes (has_gates form text) text r e in
        let l = own_lent r.kinds r.literals in
        subst (λ (l : List ℕ). length l ≤ 128) (sym by_run)
        (result_short _ _ _ _ _ _ (omega (arith, passes.few_variables)) (omega (arith, passes.few_clauses))
        (omega (arith, (run_reached l round_limit).round_a refl, count_in_room l round_limit universal (omega arith))) (omega (arith, count_in_room l round_limit universal (omega arith)))
        (omega (arith, count_in_room l round_limit existential (omega arith))))

  refused_printed : (n line : ℕ) → form_read form text ≡ refused n line → printed form text ≡ refusal_line n line
  unfolding printed result_of
  refused_printed n line e = ap (λ (x : Result). result_of (decided x (one_run round_limit) (own_areas zeros)).decision) e

  printed_short : length (printed form text) ≤ 128
  printed_short =
      by_reading form text (one_run round_limit) run_fine many_in_run taken_short
      (λ n line e.
      subst (λ (l : List ℕ). length l ≤ 128) (sym (refused_printed n line e))
      (refusal_short n line (omega (arith, reading_number (has_gates form text) text n line e)) (omega (arith, reading_line (has_gates form text) text n line e))))

  made : (gates : Bool) → gates ≡ true → (r : Read) → read_as gates text ≡ taken r → r.clauses ≡ length (clauses r.literals)
  unfolding read_gates
  made true told r e = (subst GatesResults e (gates_pass text max_unknowns max_entries max_unknowns)).counted
  made false told r e = let z : ◌≡◌ {A = ℕ} 0 1 = cc told in absurd (omega arith)

  same_front : (area : Bytes) → work_size ≤ length area → (settings : List ℕ) → decision_in form text settings area ≡ decision_of form text settings
  same_front area room settings =
      same_decision (front area) zeros (length-take-le work_size area room ∙ sym (length-replicate {A = ℕ} work_size 0)) (form_read form text) settings

  pub answer_right : (area : Bytes) → AnswerRight form text area
  unfolding printed result_of result_lines
  answer_right area =
      record {
        lines = lines_right form text (one_run round_limit) run_fine many_in_run _ (printed form text) 128 printed_short refl;
        by_run = by_run;
        made = made (has_gates form text);
        in_area = λ room. ap result_of (same_front area room (one_run round_limit));
      }

  study_is_short : (d : Decision) → length (study_of d) ≤ 192
  unfolding study_of
  study_is_short d = by_test (is_refusal d.answer)
    where
      by_test : (b : Bool)
          → length (cond b (refusal_line (number_of d.answer) d.line) (study_lines (number_of d.answer) d.variables d.clauses d.setting d.round d.universal d.existential)) ≤ 192
      by_test true = refusal_short_study _ _
      by_test false = study_short _ _ _ _ _ _ _

  pub study_answer_right : (area : Bytes) → StudyAnswerRight form text area
  unfolding study_printed study_of study_lines
  study_answer_right area =
      let d = decision_of form text default_settings in
      let two = line_two d.round d.universal d.existential in
      record {
        lines =
            lines_right form text default_settings study_fine many_in_study (setting_line d.setting ++ two) (study_printed form text) 192 (study_is_short d)
            (ap (λ (l : List ℕ). cond (is_refusal d.answer) (refusal_line (number_of d.answer) d.line) l)
            (append_assoc (line_one (number_of d.answer) d.variables d.clauses) (setting_line d.setting) two));
        in_area = λ room. ap study_of (same_front area room default_settings);
      }

-- ---- the functions

module _ (d : Decision) {refusal : Bool} {n : ℕ} (on_refusal : is_refusal d.answer ≡ refusal) (on_number : n ≡ number_of d.answer) where
  pub result_by : cond refusal (refusal_line n d.line) (result_lines n d.variables d.clauses d.round d.universal d.existential) ≡ result_of d
  unfolding result_of
  result_by =
      λ i. cond (sym on_refusal i) (refusal_line (on_number i) d.line) (result_lines (on_number i) d.variables d.clauses d.round d.universal d.existential)

  pub study_by : cond refusal (refusal_line n d.line) (study_lines n d.variables d.clauses d.setting d.round d.universal d.existential) ≡ study_of d
  unfolding study_of
  study_by =
      λ i.
      cond (sym on_refusal i) (refusal_line (on_number i) d.line)
      (study_lines (on_number i) d.variables d.clauses d.setting d.round d.universal d.existential)
