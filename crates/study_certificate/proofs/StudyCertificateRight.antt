-- The file written of a study is accepted by the judge, for every text and gate list. Assumes nothing.
use Prim.Native.Nat.{ℕ, suc}
use Rattle.std.specs.Prelude.{Ok}
use native.Mathlib.Omega.{arith}
use mathlib.Core.Path.{◌≡◌, refl, sym, ap, subst, ◌∙◌}
use mathlib.Core.Bool.{Bool, true, false}
use mathlib.Core.List.{List, []}
use mathlib.Core.Logic.{inl, inr}
use lib.ListN.{length, replicate}
use Rattle.formula.specs.Formula.{work_size}
use Rattle.formula.specs.Causes.{checked, sizes}
use Rattle.rows.specs.Table.{table_of}
use Rattle.rounds.specs.Run.{rows, is_false, is_true, spent, no_room_universal, no_room_existential, number, Answer, Outcome}
use Rattle.engine.specs.Outcome.{named, number_of}
use Rattle.text.specs.Reading.{Read, Result, taken, refused, read_as}
use Rattle.text.proofs.ReadAsLaws.{reading_passes}
use Rattle.report.specs.Report.{refusal_line}
use Rattle.witness.specs.File.{file}
use Rattle.certificate.specs.Certificate.{Output, only_lines, true_record as run_true, false_record as run_false}
use Rattle.certificate.proofs.AnyRun.{true_file, false_file, found_true, short_true, found_false, short_false}
use Rattle.judgement.specs.declared.Finding.TheVariants as Finding
use Rattle.judgement.specs.Finding as judging
use Rattle.judgement.specs.JudgementRight.{Prints}
use Rattle.study.specs.declared.Studied.{Studied}
use Rattle.study.specs.Study.{Ending, is_verdict}
use Rattle.study.proofs.StudyRight.{study_right}
use Rattle.study_answer.specs.House.{own_areas}
use Rattle.study_answer.specs.Printed.{lines_of}
use Rattle.study_answer.proofs.HouseLaws.{whole}
use Rattle.study_answer.proofs.AnswerRight.{means}
use Rattle.study_answer.proofs.PrintedLaws.{study_short, refusal_short}
use Rattle.study_certificate.specs.WitnessList.{witness_list, witness_study}
use Rattle.study_certificate.specs.StudyCertificate.{true_record, false_record, by_answer, on_ending, on_formula, on_reading, output, written, said}
use Rattle.study_certificate.specs.StudyCertificateRight.{StudyCertificateRight}
use Rattle.study_certificate.proofs.LentRun.{Lent, study_lent}

abbrev zeros : List ℕ
zeros = replicate work_size 0

module _ (gates : Bool) (text : List ℕ) where
  -- By what is written and said.
  module _ (x : Output) (so : output gates text zeros ≡ x) where
    written_so : written gates text ≡ x.file
    unfolding written
    written_so = ap (λ (y : Output). y.file) so

    said_so : said gates text ≡ x.lines
    unfolding said
    said_so = ap (λ (y : Output). y.lines) so

  -- The text is refused.
  when_refused : (n line : ℕ) → read_as gates text ≡ refused n line → StudyCertificateRight gates text
  unfolding output
  when_refused n line e =
      let so : output gates text zeros ≡ only_lines (refusal_line n line) = ap (λ (r : Result). on_reading r zeros) e in
      let none = written_so _ so in
      let says = said_so _ so in
      record {
        one_form = inr (inr (inr (record { number = n; line = line; read_so = e; nothing = none; said_so = says })));
        file_short = omega (arith, ap length none);
        lines_short = omega (arith, ap length says, refusal_short n line);
      }

  -- The text is taken.
  module _ (s : Read) (e : read_as gates text ≡ taken s) where
    abbrev study : Ending
    study = witness_study s.kinds s.literals zeros

    abbrev r : Studied
    r = study.result

    passes : checked s.kinds s.literals ≡ Ok (sizes s.kinds s.literals)
    passes = (reading_passes gates text s e).accepted

    held : Lent s.kinds s.literals study
    held = study_lent s.kinds s.literals zeros passes whole

    abbrev end : Outcome
    end = held.ready.end

    abbrev gives : Answer → Output
    gives a = by_answer (named a) (length s.kinds) s.variables s.clauses r study.areas_left.universal_rows study.areas_left.existential_rows

    answer_so : (a : Answer) → end.answer ≡ a → r.outcome.answer ≡ named a
    answer_so a is = held.ready.ran.answer_so ∙ ap named is

    output_so : (a : Answer) → end.answer ≡ a → output gates text zeros ≡ gives a
    unfolding output on_formula on_ending
    output_so a is =
        ap (λ (x : Result). on_reading x zeros) e
        ∙ ap (λ (b : _). by_answer b (length s.kinds) s.variables s.clauses r study.areas_left.universal_rows study.areas_left.existential_rows) (answer_so a is)

    -- What the judge finds of a file.
    judged : (claim : ℕ) (f : List ℕ) → Finding.Accepted claim ≡ (judging.on_formula s.kinds s.literals s.clauses f zeros).finding
        → judging.printed_of (read_as gates text) f ≡ judging.accepted_line claim
    unfolding judging.printed_of judging.finding_of
    judged claim f found = ap judging.line_of (ap (λ (x : Result). (judging.on_text x f zeros).finding) e ∙ sym found)

    true_same : end.answer ≡ is_true
        → file (true_record (length s.kinds) s.clauses r.outcome) study.areas_left.universal_rows study.areas_left.existential_rows
        ≡ file (run_true (length s.kinds) s.clauses end) [] (table_of (rows end.S))
    true_same is = true_file (length s.kinds) s.clauses held.ready.ran (ap number is) refl

    false_same : end.answer ≡ is_false
        → file (false_record (length s.kinds) s.clauses r.outcome) study.areas_left.universal_rows study.areas_left.existential_rows
        ≡ file (run_false (length s.kinds) s.clauses end) (table_of (rows end.A)) []
    false_same is = false_file (length s.kinds) s.clauses held.ready.ran (ap number is) refl

    when_true : end.answer ≡ is_true → StudyCertificateRight gates text
    unfolding judging.accepted_line
    when_true is =
        let f = written_so _ (output_so is_true is) ∙ true_same is in
        let none = said_so _ (output_so is_true is) in
        let answered = answer_so is_true is in
        record {
          one_form =
              inl
              (record {
                formula = s;
                read_so = e;
                answered = answered;
                right = means gates text s true e ((study_right s.kinds s.literals witness_list (own_areas zeros)).only_true answered);
                accepted = subst (λ (x : List ℕ). Prints (read_as gates text) x "accepted 1\n") (sym f) (judged 1 _ (found_true s.kinds s.literals s.clauses passes end held.borne is));
                silent = none;
              });
          file_short = omega (arith, ap length f, short_true s.kinds s.literals s.clauses passes end held.borne is);
          lines_short = omega (arith, ap length none);
        }

    when_false : end.answer ≡ is_false → StudyCertificateRight gates text
    unfolding judging.accepted_line
    when_false is =
        let f = written_so _ (output_so is_false is) ∙ false_same is in
        let none = said_so _ (output_so is_false is) in
        let answered = answer_so is_false is in
        record {
          one_form =
              inr
              (inl
              (record {
                formula = s;
                read_so = e;
                answered = answered;
                right = means gates text s false e ((study_right s.kinds s.literals witness_list (own_areas zeros)).only_false answered);
                accepted = subst (λ (x : List ℕ). Prints (read_as gates text) x "accepted 0\n") (sym f) (judged 0 _ (found_false s.kinds s.literals s.clauses passes end held.borne is));
                silent = none;
              }));
          file_short = omega (arith, ap length f, short_false s.kinds s.literals s.clauses passes end held.borne is);
          lines_short = omega (arith, ap length none);
        }

    -- No verdict.
    when_open : (a : Answer) → end.answer ≡ a → gives a ≡ only_lines (lines_of s.variables s.clauses r) → is_verdict (named a) ≡ false → StudyCertificateRight gates text
    when_open a is lines_only no_verdict =
        let so = output_so a is ∙ lines_only in
        let none = written_so _ so in
        let says = said_so _ so in
        record {
          one_form = inr (inr (inl (record { formula = s; read_so = e; answered = ap is_verdict (answer_so a is) ∙ no_verdict; nothing = none; said_so = says })));
          file_short = omega (arith, ap length none);
          lines_short = omega (arith, ap length says, study_short (number_of r.outcome.answer) s.variables s.clauses (suc r.setting) r.outcome.round r.outcome.universal r.outcome.existential);
        }

    by_end : (a : Answer) → end.answer ≡ a → StudyCertificateRight gates text
    by_end is_true is = when_true is
    by_end is_false is = when_false is
    by_end spent is = when_open spent is refl refl
    by_end no_room_universal is = when_open no_room_universal is refl refl
    by_end no_room_existential is = when_open no_room_existential is refl refl

  by_reading : (x : Result) → read_as gates text ≡ x → StudyCertificateRight gates text
  by_reading (refused n line) e = when_refused n line e
  by_reading (taken s) e = by_end s e (held s e).ready.end.answer refl

  pub study_certificate_right : StudyCertificateRight gates text
  study_certificate_right = by_reading (read_as gates text) refl
