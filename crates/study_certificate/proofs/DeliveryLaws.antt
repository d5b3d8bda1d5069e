-- From what the reader, the study and the writers promise to what is delivered. Assumes nothing.
use Prim.Native.Nat.{ℕ, suc, ◌+◌, ◌≤◌}
use Rattle.std.specs.Prelude.{Ok}
use native.Mathlib.Omega.{arith}
use mathlib.Core.Path.{◌≡◌, refl, sym, ap, subst, ◌∙◌}
use mathlib.Core.Bool.{Bool, cond}
use mathlib.Core.List.{List}
use lib.Dec.{eqb}
use lib.IntN.{ℤ}
use lib.ListN.{length, take}
use borrow.Author.Tests.{eq-eqb, ne_eqb}
use Rattle.formula.specs.Formula.{max_unknowns, work_size}
use Rattle.formula.specs.Causes.{checked, sizes}
use Rattle.formula.proofs.Accepted.{accepted}
use Rattle.rounds.specs.Run.{is_false, is_true, spent, no_room_universal, no_room_existential, number, Answer as RunAnswer}
use Rattle.engine.specs.declared.run.Answer.{Answer}
use Rattle.engine.specs.Outcome.{Areas, number_of, named, refusal}
use Rattle.text.specs.Reading.{Read, Result, refused, read_as}
use Rattle.text.proofs.ReadAsLaws.{reading_passes}
use Rattle.text.proofs.FrontLaws.{Front}
use Rattle.report.specs.Report.{refusal_line, put, put_count}
use Rattle.report.specs.Studied.{study_lines}
use Rattle.witness.specs.declared.Record.{Record}
use Rattle.witness.specs.File.{file}
use Rattle.certificate.specs.declared.Counts.{Counts}
use Rattle.certificate.specs.Certificate.{Output, only_file, only_lines, Delivered}
use Rattle.certificate.proofs.AnyRun as any
use Rattle.certificate.proofs.CertificateLaws.{lines_delivered, file_delivered}
use Rattle.study.specs.declared.Studied.{Studied}
use Rattle.study.specs.Study.{Ending, ending, settings_of, in_turn, studied}
use Rattle.study.specs.StudyRight.{Studies}
use Rattle.study_answer.specs.House.{own_areas}
use Rattle.study_answer.specs.Printed.{lines_of}
use Rattle.study_certificate.specs.WitnessList.{witness_list, witness_study}
use Rattle.study_certificate.specs.StudyCertificate.{true_record, false_record, by_answer, on_ending, on_formula, on_reading, work_by, output, left}
use Rattle.study_certificate.specs.StudyCertificateRight.{StudyCertificateRight}
use Rattle.study_certificate.specs.Private.Steps.{Ready}
use Rattle.study_certificate.proofs.LentRun.{stopped, study_lent}

abbrev counts : ℕ → ℕ → Counts
counts n k = record { file = n; lines = k }

-- ---- what is delivered of a study

undecided : (a : RunAnswer) (unknowns variables clauses : ℕ) (r : Studied) (U E : List ℕ) → (number a ≡ 1 → ⊥) → (number a ≡ 0 → ⊥)
    → only_lines (lines_of variables clauses r) ≡ by_answer (named a) unknowns variables clauses r U E
undecided is_true u v c r U E none other = absurd (none refl)
undecided is_false u v c r U E none other = absurd (other refl)
undecided spent u v c r U E none other = refl
undecided no_room_universal u v c r U E none other = refl
undecided no_room_existential u v c r U E none other = refl

module _ (unknowns variables clauses : ℕ) {r : Studied} {U E : List ℕ} (ready : Ready r U E) where
  abbrev gives : Answer → Output
  gives a = by_answer a unknowns variables clauses r U E

  answer_so : {a : RunAnswer} → ready.end.answer ≡ a → named a ≡ r.outcome.answer
  answer_so is = sym (ready.ran.answer_so ∙ ap named is)

  pub number_so : {n : ℕ} → n ≡ number_of r.outcome.answer → n ≡ number ready.end.answer
  number_so = any.number_so unknowns clauses ready.ran

  module _ {R : Record} (out lines : List ℕ) {n : ℕ} {out_then : List ℕ} (counted : n ≡ put_count (file R U E) out) (written : out_then ≡ put (file R U E) out)
    where
      delivered : (x : Record) {a : RunAnswer} → R ≡ x → ready.end.answer ≡ a → only_file (file x U E) ≡ gives (named a)
          → Delivered (gives r.outcome.answer) out lines (counts n 0) out_then lines
      delivered x is answer given =
          subst (λ (y : Output). Delivered y out lines (counts n 0) out_then lines)
          (ap (λ (y : Record). only_file (file y U E)) is ∙ given ∙ ap gives (answer_so answer)) (file_delivered (file R U E) out lines counted written)

      pub true_delivered : number ready.end.answer ≡ 1 → R ≡ true_record unknowns clauses r.outcome →
          Delivered (gives r.outcome.answer) out lines (counts n 0) out_then lines
      true_delivered one is = delivered (true_record unknowns clauses r.outcome) is (any.true_if ready.end.answer one) refl

      pub false_delivered : number ready.end.answer ≡ 0 → R ≡ false_record unknowns clauses r.outcome →
          Delivered (gives r.outcome.answer) out lines (counts n 0) out_then lines
      false_delivered none is = delivered (false_record unknowns clauses r.outcome) is (any.false_if ready.end.answer none) refl

  -- The lines, with the setting counted from 1.
  lines_so : {n : ℕ} → n ≡ number_of r.outcome.answer
      → study_lines n variables clauses (r.setting + 1) r.outcome.round r.outcome.universal r.outcome.existential ≡ lines_of variables clauses r
  lines_so {n} e =
      let placed : r.setting + 1 ≡ suc r.setting = omega arith in
      ap (λ (k : ℕ). study_lines n variables clauses k r.outcome.round r.outcome.universal r.outcome.existential) placed
      ∙ ap (λ (k : ℕ). study_lines k variables clauses (suc r.setting) r.outcome.round r.outcome.universal r.outcome.existential) e

  pub undecided_delivered : (out lines : List ℕ) {n k : ℕ} {lines_then : List ℕ} → n ≡ number_of r.outcome.answer → (n ≡ 1 → ⊥) → (n ≡ 0 → ⊥)
      → k ≡ put_count (study_lines n variables clauses (r.setting + 1) r.outcome.round r.outcome.universal r.outcome.existential) lines
      → lines_then ≡ put (study_lines n variables clauses (r.setting + 1) r.outcome.round r.outcome.universal r.outcome.existential) lines
      → Delivered (gives r.outcome.answer) out lines (counts 0 k) out lines_then
  undecided_delivered out lines {n} {k} {lines_then} e not_true not_false counted written =
      let numbered = number_so e in
      subst (λ (x : Output). Delivered x out lines (counts 0 k) out lines_then)
      (ap only_lines (lines_so e)
      ∙ undecided ready.end.answer unknowns variables clauses r U E (λ z. not_true (numbered ∙ z)) (λ z. not_false (numbered ∙ z))
      ∙ ap gives (answer_so refl))
      (lines_delivered _ out lines counted written)

-- ---- a formula that is accepted

module _ (kinds : List ℕ) (literals : List ℤ) (work : List ℕ) (passes : checked kinds literals ≡ Ok (sizes kinds literals)) (whole : length work ≡ work_size)
  where
    pub few_unknowns : length kinds ≤ max_unknowns
    few_unknowns = (accepted kinds literals passes).few_unknowns

    module _ {r : Studied} {exit : Areas} (s : Studies kinds literals witness_list (own_areas work) r exit) where
      pub ready_so : Ready r exit.universal_rows exit.existential_rows
      ready_so =
          subst (λ (e : Ending). Ready e.result e.areas_left.universal_rows e.areas_left.existential_rows) (sym s.studied_so)
          (study_lent kinds literals work passes (eq-eqb (length work) work_size whole)).ready

      pub work_so : exit.work ≡ (witness_study kinds literals work).areas_left.work
      work_so = ap (λ (e : Ending). e.areas_left.work) s.studied_so

      pub formula_delivered : (variables clauses : ℕ) (file lines : List ℕ) {c : Counts} {file_then lines_then : List ℕ}
          → Delivered (by_answer r.outcome.answer (length kinds) variables clauses r exit.universal_rows exit.existential_rows) file lines c file_then
          lines_then
          → Delivered (on_formula kinds literals variables clauses work) file lines c file_then lines_then
      unfolding on_formula on_ending
      formula_delivered variables clauses file lines {c} {file_then} {lines_then} d =
          subst (λ (e : Ending). Delivered (on_ending (length kinds) variables clauses e) file lines c file_then lines_then) s.studied_so d

-- ---- from the reading

module _ (gates : Bool) (text work : List ℕ) where
  abbrev pub Certified : List ℕ → List ℕ → Counts → List ℕ → List ℕ → List ℕ → Type 0
  Certified file lines r file_then lines_then work_then =
      Delivered (output gates text work) file lines r file_then lines_then × ((work_then ≡ left gates text work) × StudyCertificateRight gates text)

  module _ {u e v c : ℕ} {kinds : List ℕ} {literals : List ℤ} (t : Front (read_as gates text) u e v c kinds literals) where
    abbrev formula : Read
    formula = t.formula

    abbrev study : Ending
    study = witness_study formula.kinds formula.literals work

    -- Cause 5 is the study's own, which leaves all as found.
    refused_study : (length work ≡ work_size → ⊥) → ending (refusal 5) 0 (own_areas work) ≡ study
    unfolding studied
    refused_study short =
        let cause_5 = stopped formula.kinds formula.literals work (reading_passes gates text formula t.whole).accepted (ne_eqb (length work) work_size short) in
        sym (ap (λ (n : ℕ). cond (eqb n 0) (in_turn formula.kinds formula.literals (settings_of witness_list) 0 (own_areas work))
        (ending (refusal n) 0 (own_areas work))) cause_5)

    refused_output : (length work ≡ work_size → ⊥) → only_lines (refusal_line 5 0) ≡ on_reading (read_as gates text) work
    unfolding on_formula on_ending
    refused_output short =
        ap (on_ending (length formula.kinds) formula.variables formula.clauses) (refused_study short) ∙ ap (λ (x : Result). on_reading x work) (sym t.whole)

    refused_work : (length work ≡ work_size → ⊥) → work ≡ work_by (read_as gates text) work
    refused_work short = ap (λ (y : Ending). y.areas_left.work) (refused_study short) ∙ ap (λ (x : Result). work_by x work) (sym t.whole)

    decided_work : {work_then : List ℕ} → work_then ≡ (witness_study (take u kinds) (take e literals) work).areas_left.work →
        work_then ≡ work_by (read_as gates text) work
    decided_work {work_then} settled =
        let here : work_then ≡ study.areas_left.work = rw (t.kinds_front, t.literals_front) at settled in
        here ∙ ap (λ (x : Result). work_by x work) (sym t.whole)

    decided_output : on_formula (take u kinds) (take e literals) v c work ≡ on_reading (read_as gates text) work
    decided_output = rw (t.kinds_front, t.literals_front, t.variables_so, t.clauses_so) (ap (λ (x : Result). on_reading x work) (sym t.whole))

  module _ (file lines : List ℕ) {r : Counts} {file_then lines_then : List ℕ} (right : StudyCertificateRight gates text) where
    certified : (x : Output) {work_then : List ℕ} → x ≡ on_reading (read_as gates text) work → work_then ≡ work_by (read_as gates text) work
        → Delivered x file lines r file_then lines_then → Certified file lines r file_then lines_then work_then
    unfolding output left
    certified x e w d = (subst (λ (y : Output). Delivered y file lines r file_then lines_then) e d, (w, right))

    pub text_refused : {n line : ℕ} → read_as gates text ≡ refused n line → Delivered (only_lines (refusal_line n line)) file lines r file_then lines_then
        → Certified file lines r file_then lines_then work
    text_refused e d = certified _ (ap (λ (x : Result). on_reading x work) (sym e)) (ap (λ (x : Result). work_by x work) (sym e)) d

    module _ {u e v c : ℕ} {kinds : List ℕ} {literals : List ℤ} (t : Front (read_as gates text) u e v c kinds literals) where
      pub work_refused : {n : ℕ} → n ≡ 5 → (length work ≡ work_size → ⊥) → Delivered (only_lines (refusal_line n 0)) file lines r file_then lines_then
          → Certified file lines r file_then lines_then work
      work_refused five short d = certified _ (ap (λ (n : ℕ). only_lines (refusal_line n 0)) five ∙ refused_output t short) (refused_work t short) d

      pub text_decided : {work_then : List ℕ} → work_then ≡ (witness_study (take u kinds) (take e literals) work).areas_left.work
          → Delivered (on_formula (take u kinds) (take e literals) v c work) file lines r file_then lines_then → Certified file lines r file_then lines_then
          work_then
      text_decided settled d = certified _ (decided_output t) (decided_work t settled) d
