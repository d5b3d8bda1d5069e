-- The judge's number, from what is found. Assumes nothing.
use Prim.Native.Nat.{ℕ, ◌+◌, ◌≤◌}
use Rattle.std.specs.Prelude.{Ok, Err}
use Rattle.cause.specs.Cause.{caused}
use native.Mathlib.Omega.{arith}
use mathlib.Core.Path.{◌≡◌, refl, sym, ap, subst, ◌∙◌}
use mathlib.Core.Bool.{Bool, true, false, not, ◌||◌, cond}
use mathlib.Core.List.{List}
use mathlib.Core.Logic.{◌⊎◌, inl, inr}
use lib.Dec.{eqb, ltb}
use lib.IntN.{ℤ}
use lib.ListN.{length, get_or, replicate}
use Rattle.formula.specs.Formula.{max_unknowns, max_entries, work_size}
use Rattle.formula.specs.Causes.{checked, sizes, number as cause_number}
use Rattle.rows.specs.Table.{room, table_fits}
use Rattle.rows.specs.Stray.{stray_rows}
use Rattle.named.specs.Names.{In}
use Rattle.judge.specs.Judge.{other_claim, width, borne_out, answer as judge_answer, cause as judge_cause, outcome as judge_outcome, work_after as judge_work}
use Rattle.text.specs.Reading.{Read, Result, taken, refused, text_read}
use Rattle.text.proofs.TextLaws.{Results, Passes, read_passes}
use Rattle.witness.specs.declared.Record.{Record}
use Rattle.witness.specs.File.{stands, end_of, bad_claim, bad_counts, record_of, file_cause}
use Rattle.judgement.specs.declared.Finding.{Finding}
use Rattle.judgement.specs.declared.Finding.TheVariants.{NotBorneOut, Accepted, OtherFormula, Refused}
use Rattle.judgement.specs.Finding.{Found, unjudged, judged as judged_so, claimed_rows, on_claim, of_another, on_record, on_formula, on_text, finding_of, left_of, finding, left}
use Rattle.judgement.specs.JudgementRight.{IsVerdict, FindingRight}
use Rattle.report.specs.Report.{put, put_count}
use Rattle.certificate.specs.declared.Counts.{Counts}
use Rattle.certificate.specs.Certificate.{output, left as witness_left, Delivered}
use Rattle.certificate.specs.CertificateRight.{CertificateRight}
use Rattle.door.specs.Witness.{number_of, judged, file_numbers, JudgedRight}
use Rattle.door.proofs.DoorLaws.{refused_of_text}

-- ---- which numbers come, and what the work area then holds

-- A number, and the area at exit, of what was found from an area.
record Said (work : List ℕ) (n : ℕ) (work_then : List ℕ) : Type 0 where
  known : (n ≤ 2) ⊎ In n file_numbers
  zero_after : n ≤ 1 → work_then ≡ replicate work_size 0
  as_found : 2 ≤ n → work_then ≡ work

abbrev SaidOf : List ℕ → Found → Type 0
SaidOf work x = Said work (number_of x.finding) x.work

module _ (work : List ℕ) where
  said_left : {n : ℕ} → (n ≤ 2) ⊎ In n file_numbers → 2 ≤ n → Said work n work
  said_left known large = record { known = known; zero_after = λ small. absurd (omega arith); as_found = λ _. refl }

  said_zero : {n : ℕ} → n ≤ 1 → Said work n (replicate work_size 0)
  said_zero small = record { known = inl (omega arith); zero_after = λ _. refl; as_found = λ large. absurd (omega arith) }

  choose : (b : Bool) (x y : Found) → SaidOf work x → SaidOf work y → SaidOf work (cond b x y)
  choose true x y on_x on_y = on_x
  choose false x y on_x on_y = on_y

  -- The judge's number and area, by its tests in order and what is borne out.
  by_tests : (claim : ℕ) (a b c d e : Bool) → let k : ℕ = cond a 4 (cond b 5 (cond c 7 (cond d 8 0))) in
      Said work (number_of (judged_so claim (cond (eqb k 0) (Ok (judge_answer e)) (Err (caused k))))) (cond (eqb k 0) (replicate work_size 0) work)
  by_tests claim true b c d e = said_left (inr (inl refl)) (omega arith)
  by_tests claim false true c d e = said_left (inr (inr (inl refl))) (omega arith)
  by_tests claim false false true d e = said_left (inr (inr (inr (inl refl)))) (omega arith)
  by_tests claim false false false true e = said_left (inr (inr (inr (inr (inl refl))))) (omega arith)
  by_tests claim false false false false true = said_zero (omega arith)
  by_tests claim false false false false false = said_zero (omega arith)

  module _ (kinds : List ℕ) (literals : List ℤ) (passes : checked kinds literals ≡ Ok (sizes kinds literals)) (f : List ℕ) where
    said_claim : (claim : ℕ) → SaidOf work (on_claim kinds literals f claim work)
    unfolding on_claim judge_outcome judge_work judge_cause
    said_claim claim =
        let rows = claimed_rows f claim in
        let later : ℕ =
        cond (not (table_fits rows)) 4
        (cond (not (eqb (length work) work_size)) 5 (cond (other_claim claim || ltb (room rows) (room rows)) 7 (cond (stray_rows (width kinds claim) (room rows) rows) 8 0))) in
        let none : cause_number (checked kinds literals) ≡ 0 = ap cause_number passes in
        let later_so : cond (eqb (cause_number (checked kinds literals)) 0) later (cause_number (checked kinds literals)) ≡ later = ap (λ (n : ℕ). cond (eqb n 0) later n) none in
        subst
        (λ (k : ℕ).
        Said work (number_of (judged_so claim (cond (eqb k 0) (Ok (judge_answer (borne_out kinds literals claim rows (room rows)))) (Err (caused k)))))
        (cond (eqb k 0) (replicate work_size 0) work))
        (sym later_so)
        (by_tests claim (not (table_fits rows)) (not (eqb (length work) work_size)) (other_claim claim || ltb (room rows) (room rows))
        (stray_rows (width kinds claim) (room rows) rows) (borne_out kinds literals claim rows (room rows)))

    said_record : (clauses : ℕ) (r : Record) → SaidOf work (on_record kinds literals clauses f r work)
    unfolding on_record
    said_record clauses r =
        let claimed = on_claim kinds literals f r.claim work in
        let unclaimed = unjudged (Refused 7 0) work in
        choose (of_another r (length kinds) clauses) (unjudged OtherFormula work) (cond (stands 0 r.map) claimed unclaimed)
        (said_left (inl (omega arith)) (omega arith))
        (choose (stands 0 r.map) claimed unclaimed (said_claim r.claim) (said_left (inr (inr (inr (inl refl)))) (omega arith)))

    -- The file's causes, by their tests in order.
    by_file : (a b c d e : Bool) (x : Found) → SaidOf work x → let k : ℕ = cond a 18 (cond b 17 (cond c (cond d 7 (cond e 4 0)) 18)) in
        SaidOf work (cond (eqb k 0) x (unjudged (Refused k 0) work))
    by_file true b c d e x on_x = said_left (inr (inr (inr (inr (inr (inr (inl refl))))))) (omega arith)
    by_file false true c d e x on_x = said_left (inr (inr (inr (inr (inr (inl refl)))))) (omega arith)
    by_file false false false d e x on_x = said_left (inr (inr (inr (inr (inr (inr (inl refl))))))) (omega arith)
    by_file false false true true e x on_x = said_left (inr (inr (inr (inl refl)))) (omega arith)
    by_file false false true false true x on_x = said_left (inr (inl refl)) (omega arith)
    by_file false false true false false x on_x = on_x

    said_formula : (clauses : ℕ) → SaidOf work (on_formula kinds literals clauses f work)
    unfolding on_formula file_cause
    said_formula clauses =
        by_file (eqb (length f) 0) (ltb 31 (get_or f 0 0)) (eqb (length f) (end_of f)) (bad_claim (record_of f)) (bad_counts (record_of f))
        (on_record kinds literals clauses f (record_of f) work) (said_record clauses (record_of f))

module _ (text f work : List ℕ) (right : FindingRight text f work) where
  verdict_by : (x : Finding) → finding text f work ≡ x → number_of x ≡ 1 → IsVerdict (record_of f).claim (text_read text)
  verdict_by NotBorneOut e is = absurd (omega arith)
  verdict_by (Accepted claim) e is = subst (λ (n : ℕ). IsVerdict n (text_read text)) (right.its_own claim e) (right.only_verdict claim e)
  verdict_by OtherFormula e is = absurd (omega arith)
  verdict_by (Refused number line) e is = absurd (omega arith)

  -- A text that is taken, and one that is refused.
  taken_said : (s : Read) → text_read text ≡ taken s → Said work (judged text f work) (left text f work)
  unfolding judged finding_of left_of
  taken_said s e =
      let passes = (subst (Results Passes) e (read_passes text max_unknowns max_entries max_unknowns)).accepted in
      subst (λ (r : Result). SaidOf work (on_text r f work)) (sym e) (said_formula work s.kinds s.literals passes f s.clauses)

  refused_said : (n line : ℕ) → text_read text ≡ refused n line → (judged text f work ≡ 100 + n) × (left text f work ≡ work)
  unfolding judged finding_of left_of
  refused_said n line e = (ap (λ (r : Result). number_of (on_text r f work).finding) e, ap (λ (r : Result). (on_text r f work).work) e)

  by_reading : {P : Type 0} → ((s : Read) → text_read text ≡ taken s → P) → ((n line : ℕ) → text_read text ≡ refused n line → P) → P
  by_reading {P} when_taken when_refused = go (text_read text) refl
    where
      go : (r : Result) → text_read text ≡ r → P
      go (taken s) e = when_taken s e
      go (refused n line) e = when_refused n line e

  judged_right : JudgedRight text f work
  unfolding judged
  judged_right =
      record {
        of_text = λ n line e. let of = refused_of_text text n line e in ((refused_said n line e).0, of.from_9, of.to_14, of.not_13);
        of_file = λ s e. (taken_said s e).known;
        zero_after = λ small. by_reading (λ s e. (taken_said s e).zero_after small) (λ n line e. absurd (omega (arith, (refused_said n line e).0)));
        as_found = λ large. by_reading (λ s e. (taken_said s e).as_found large) (λ n line e. (refused_said n line e).1);
        only_verdict = verdict_by (finding text f work) refl;
      }

  -- What is returned and left in the case in hand.
  pub case_judged : {result : Finding} (case : Finding) {work_then : List ℕ} → result ≡ finding text f work → result ≡ case → work_then ≡ left text f work
      → (number_of case ≡ judged text f work) × ((work_then ≡ left text f work) × JudgedRight text f work)
  unfolding judged
  case_judged case found told area = (ap number_of (sym told ∙ found), (area, judged_right))

-- The file alone.
pub file_certified : (text out work : List ℕ) {lines lines_then : List ℕ} {r : Counts} {out_then work_then : List ℕ}
    → Delivered (output text work) out lines r out_then lines_then × ((work_then ≡ witness_left text work) × CertificateRight text)
    → (r.file ≡ put_count (output text work).file out)
    × ((out_then ≡ put (output text work).file out) × ((work_then ≡ witness_left text work) × CertificateRight text))
file_certified text out work c = (c.0.file_counted, (c.0.file_written, (c.1.0, c.1.1)))
