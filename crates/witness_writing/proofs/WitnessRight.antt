-- The file that is written of an untrimmed study is accepted by the judge. Assumes nothing.
use Prim.Native.Nat.{ℕ, suc, ◌≤◌}
use Rattle.std.specs.Prelude.{Ok}
use native.Mathlib.Omega.{arith}
use mathlib.Core.Path.{◌≡◌, refl, sym, ap, subst, ◌∙◌}
use mathlib.Core.Bool.{Bool, true, false, cond, true≢false}
use mathlib.Core.List.{List, []}
use lib.ListN.{length, replicate}
use borrow.Author.Tests.{eq-eqb, le-leb}
use Rattle.formula.specs.Formula.{max_unknowns, max_rows, work_size}
use Rattle.formula.specs.Causes.{checked, sizes}
use Rattle.formula.proofs.Accepted.{accepted}
use Rattle.rounds.specs.Run.{Answer, is_false, is_true, spent, no_room_universal, no_room_existential, Outcome}
use Rattle.engine.specs.declared.run.Answer.{Answer as Told}
use Rattle.engine.specs.declared.run.Answer.TheVariants.{False, True, Spent, NoRoomUniversal, NoRoomExistential, Refused}
use Rattle.engine.specs.Outcome.{Areas, named}
use Rattle.text.specs.declared.Form.{Form}
use Rattle.text.specs.Reading.{Read, Result, taken}
use Rattle.text.specs.Form.{has_gates, form_read}
use Rattle.text.proofs.TextLaws.{Passes}
use Rattle.text.proofs.ReadAsLaws.{reading_passes}
use Rattle.report.specs.Report.{put, put_count}
use Rattle.witness.specs.File.{file, size, write_cause}
use Rattle.judgement.specs.declared.Finding.TheVariants as Finding
use Rattle.judgement.specs.Finding as judging
use Rattle.judgement.specs.JudgementRight.{Prints}
use Rattle.study.specs.Study.{Ending, settings_of, cause, is_verdict, studied}
use Rattle.decision.specs.declared.Decision.{Decision}
use Rattle.decision.specs.Deciding.{Ending as Decided, decided}
use Rattle.witness_writing.specs.WitnessFile.{side_record, record_file, numbers_fit, file_of, by_answer, decision_file}
use Rattle.witness_writing.specs.WitnessRight.{Untrimmed, Accepted, file_left, WitnessRight}
use Rattle.witness_writing.proofs.AnyRun.{true_writes, true_bytes, false_writes, false_bytes, found_true, short_true, found_false, short_false}
use Rattle.witness_writing.proofs.LentRun.{Lent, study_lent}

abbrev zeros : List ℕ
zeros = replicate work_size 0

-- ---- the file of a record that can be written

fit_so : (a b c d : ℕ) → a ≤ 65535 → b ≤ 65535 → c ≤ 65535 → d ≤ 65535 → numbers_fit a b c d ≡ true
fit_so a b c d e f g h = rw (le-leb a 65535 e, le-leb b 65535 f, le-leb c 65535 g, le-leb d 65535 h) refl

whole_file : (value : Bool) (u c k n : ℕ) (bytes : List ℕ) → u ≤ 65535 → c ≤ 65535 → k ≤ 65535 → n ≤ 65535
    → write_cause (side_record value u c k n) bytes bytes (size (side_record value u c k n)) ≡ 0
    → file_of value u c bytes k n ≡ file (side_record value u c k n) bytes bytes
unfolding file_of record_file
whole_file value u c k n bytes few_u few_c few_k few_n fine =
    let R = side_record value u c k n in
    ap (λ (b : Bool). cond b (record_file R bytes) []) (fit_so u c k n few_u few_c few_k few_n)
    ∙ ap (λ (b : Bool). cond b (file R bytes bytes) []) (eq-eqb (write_cause R bytes bytes (size R)) 0 fine)

-- ---- the answer of the run

true_if : (a : Answer) → named a ≡ True → a ≡ is_true
true_if is_true e = refl
true_if is_false e = let z : ◌≡◌ {A = ℕ} 0 1 = cc in absurd (omega (arith, z))
true_if spent e = let z : ◌≡◌ {A = ℕ} 0 1 = cc in absurd (omega (arith, z))
true_if no_room_universal e = let z : ◌≡◌ {A = ℕ} 0 1 = cc in absurd (omega (arith, z))
true_if no_room_existential e = let z : ◌≡◌ {A = ℕ} 0 1 = cc in absurd (omega (arith, z))

false_if : (a : Answer) → named a ≡ False → a ≡ is_false
false_if is_false e = refl
false_if is_true e = let z : ◌≡◌ {A = ℕ} 0 1 = cc in absurd (omega (arith, z))
false_if spent e = let z : ◌≡◌ {A = ℕ} 0 1 = cc in absurd (omega (arith, z))
false_if no_room_universal e = let z : ◌≡◌ {A = ℕ} 0 1 = cc in absurd (omega (arith, z))
false_if no_room_existential e = let z : ◌≡◌ {A = ℕ} 0 1 = cc in absurd (omega (arith, z))

-- ---- a text that is read

module _ (form : Form) (text : List ℕ) (r : Read) (e : form_read form text ≡ taken r) where
  passes : Passes r
  passes = reading_passes (has_gates form text) text r e

  accepts : checked r.kinds r.literals ≡ Ok (sizes r.kinds r.literals)
  accepts = passes.accepted

  -- What the judge finds of a file.
  judged : (claim : ℕ) (f : List ℕ) → Finding.Accepted claim ≡ (judging.on_formula r.kinds r.literals r.clauses f zeros).finding
      → judging.printed_of (form_read form text) f ≡ judging.accepted_line claim
  unfolding judging.printed_of judging.finding_of
  judged claim f found = ap judging.line_of (ap (λ (x : Result). (judging.on_text x f zeros).finding) e ∙ sym found)

  -- The file of what a study returned and left, for either value.
  abbrev true_file : Ending → List ℕ
  true_file e =
      file_of true (length r.kinds) r.clauses e.areas_left.existential_rows e.result.outcome.existential e.result.outcome.round

  abbrev false_file : Ending → List ℕ
  false_file e =
      file_of false (length r.kinds) r.clauses e.areas_left.universal_rows e.result.outcome.universal e.result.outcome.round

  module _ (end : Ending) (few : length r.kinds ≤ max_unknowns) (held : Lent r.kinds r.literals end) where
    abbrev o : Outcome
    o = held.end

    round_few : end.result.outcome.round ≤ suc max_rows
    round_few = omega (arith, held.ran.round_so, held.ran.few_rounds)

    if_true : end.result.outcome.answer ≡ True → Accepted form text (true_file end) "accepted 1\n"
    unfolding judging.accepted_line
    if_true told =
        let is = true_if o.answer (sym held.ran.answer_so ∙ told) in
        let writes = true_writes (length r.kinds) r.clauses held.ran is in
        let rows_few : end.result.outcome.existential ≤ max_rows = omega (arith, held.ran.existential_so, held.ran.few_existential) in
        let whole =
        whole_file true (length r.kinds) r.clauses end.result.outcome.existential end.result.outcome.round end.areas_left.existential_rows
        (omega (arith, few)) (omega (arith, passes.few_clauses)) (omega (arith, rows_few)) (omega (arith, round_few)) writes in
        let same = whole ∙ true_bytes (length r.kinds) r.clauses held.ran is in
        let found = found_true r.kinds r.literals r.clauses accepts o held.borne is in
        record {
          accepted = subst (λ (x : List ℕ). Prints (form_read form text) x "accepted 1\n") (sym same) (judged 1 _ found);
          short = omega (arith, ap length same, short_true r.kinds r.literals r.clauses accepts o held.borne is);
        }

    if_false : end.result.outcome.answer ≡ False → Accepted form text (false_file end) "accepted 0\n"
    unfolding judging.accepted_line
    if_false told =
        let is = false_if o.answer (sym held.ran.answer_so ∙ told) in
        let writes = false_writes (length r.kinds) r.clauses held.ran is in
        let rows_few : end.result.outcome.universal ≤ max_rows = omega (arith, held.ran.universal_so, held.ran.few_universal) in
        let whole =
        whole_file false (length r.kinds) r.clauses end.result.outcome.universal end.result.outcome.round end.areas_left.universal_rows
        (omega (arith, few)) (omega (arith, passes.few_clauses)) (omega (arith, rows_few)) (omega (arith, round_few)) writes in
        let same = whole ∙ false_bytes (length r.kinds) r.clauses held.ran is in
        let found = found_false r.kinds r.literals r.clauses accepts o held.borne is in
        record {
          accepted = subst (λ (x : List ℕ). Prints (form_read form text) x "accepted 0\n") (sym same) (judged 0 _ found);
          short = omega (arith, ap length same, short_false r.kinds r.literals r.clauses accepts o held.borne is);
        }

-- ---- the file of a decision

by_told : (d : Decision) (U E : List ℕ) (a : Told) → d.answer ≡ a → decision_file d U E ≡ by_answer a d U E
unfolding decision_file
by_told d U E a told = ap (λ (x : Told). by_answer x d U E) told

no_verdict : (a : Told) (d : Decision) (U E : List ℕ) → is_verdict a ≡ false → by_answer a d U E ≡ []
no_verdict True d U E h = absurd (true≢false h)
no_verdict False d U E h = absurd (true≢false h)
no_verdict Spent d U E h = refl
no_verdict NoRoomUniversal d U E h = refl
no_verdict NoRoomExistential d U E h = refl
no_verdict (Refused cause) d U E h = refl

module _ (form : Form) (text : List ℕ) (settings : List ℕ) (found : Areas) where
  abbrev reading : Result
  reading = form_read form text

  -- With the reading that is known.
  module _ (r : Read) (e : reading ≡ taken r) (untrimmed : Untrimmed (settings_of settings)) (none : cause r.kinds r.literals settings found ≡ 0) where
    abbrev end : Decided
    end = decided (taken r) settings found

    held : Lent r.kinds r.literals (studied r.kinds r.literals settings found)
    held = study_lent r.kinds r.literals settings found none untrimmed

    few : length r.kinds ≤ max_unknowns
    few = (accepted r.kinds r.literals (passes form text r e).accepted).few_unknowns

    true_here : end.decision.answer ≡ True → Accepted form text (file_left end) "accepted 1\n"
    true_here told =
        subst (λ (bytes : List ℕ). Accepted form text bytes "accepted 1\n")
        (sym (by_told end.decision end.areas_left.universal_rows end.areas_left.existential_rows True told))
        (if_true form text r e (studied r.kinds r.literals settings found) few held told)

    false_here : end.decision.answer ≡ False → Accepted form text (file_left end) "accepted 0\n"
    false_here told =
        subst (λ (bytes : List ℕ). Accepted form text bytes "accepted 0\n")
        (sym (by_told end.decision end.areas_left.universal_rows end.areas_left.existential_rows False told))
        (if_false form text r e (studied r.kinds r.literals settings found) few held told)

    true_so : (decided reading settings found).decision.answer ≡ True → Accepted form text (file_left (decided reading settings found)) "accepted 1\n"
    true_so =
        subst (λ (x : Result). (decided x settings found).decision.answer ≡ True → Accepted form text (file_left (decided x settings found)) "accepted 1\n")
        (sym e) true_here

    false_so : (decided reading settings found).decision.answer ≡ False → Accepted form text (file_left (decided reading settings found)) "accepted 0\n"
    false_so =
        subst (λ (x : Result). (decided x settings found).decision.answer ≡ False → Accepted form text (file_left (decided x settings found)) "accepted 0\n")
        (sym e) false_here

  open_so : (end : Decided) → is_verdict end.decision.answer ≡ false → file_left end ≡ []
  open_so end h =
      let U = end.areas_left.universal_rows in
      let E = end.areas_left.existential_rows in
      by_told end.decision U E end.decision.answer refl ∙ no_verdict end.decision.answer end.decision U E h

pub witness_right : WitnessRight
witness_right form text settings found =
    record {
      if_true = true_so form text settings found;
      if_false = false_so form text settings found;
      nothing = open_so form text settings found (decided (form_read form text) settings found);
    }

-- What was put by the decision's answer.
pub told_put : (d : Decision) (U E out : List ℕ) {a : Told} {n : ℕ} {after : List ℕ} → d.answer ≡ a → n ≡ put_count (by_answer a d U E) out
    → after ≡ put (by_answer a d U E) out → (n ≡ put_count (decision_file d U E) out) × (after ≡ put (decision_file d U E) out)
told_put d U E out {a} told counted written =
    let same = sym (by_told d U E a told) in
    (counted ∙ ap (λ (bytes : List ℕ). put_count bytes out) same, written ∙ ap (λ (bytes : List ℕ). put bytes out) same)
