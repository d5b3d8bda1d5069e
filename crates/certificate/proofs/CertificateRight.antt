-- The file written for a text is accepted by the judge on that text, for every text. Assumes nothing.
use Prim.Native.Nat.{ℕ, ◌≤◌}
use Rattle.std.specs.Prelude.{Ok}
use native.Mathlib.Omega.{arith}
use mathlib.Core.Path.{◌≡◌, refl, sym, ap, subst, ◌∙◌}
use mathlib.Core.Bool.{Bool, true, false, cond}
use mathlib.Core.List.{List, []}
use mathlib.Core.Logic.{◌⊎◌, inl, inr}
use Prim.Native.String.{String}
use lib.Dec.{eqb}
use lib.IntN.{ℤ}
use lib.ListN.{length, replicate, length-replicate}
use Rattle.formula.specs.Formula.{work_size}
use Rattle.formula.specs.Causes.{checked, sizes}
use Rattle.rounds.specs.Run.{Answer, is_false, is_true, spent, no_room_universal, no_room_existential, Outcome}
use Rattle.text.specs.Reading.{Result, taken, refused, text_read, Read, read, read_gates, gates_read}
use Rattle.text.proofs.TextLaws.{Passes}
use Rattle.report.specs.Report.{line_one, result_lines, refusal_line}
use Rattle.answer.specs.Printed.{settled, result_of, shown, printed, gates_printed}
use Rattle.text.proofs.ReadAsLaws.{reading_passes}
use Rattle.answer.specs.AnswerRight.{Begins}
use Rattle.answer.proofs.PrintedLaws.{refusal_begins, Line, true_begins, false_begins, no_room_universal_begins, no_room_existential_begins}
use Rattle.answer.proofs.AnswerRight.{answer_right}
use Rattle.answer.proofs.GatesAnswerRight.{gates_answer_right}
use Rattle.judgement.specs.declared.Finding.{Finding}
use Rattle.judgement.specs.Finding as judging
use Rattle.judgement.specs.JudgementRight.{Prints}
use Rattle.certificate.specs.Certificate.{Output, only_lines, lines_of, by_answer, on_outcome, on_formula, on_text, written_of, said_of}
use Rattle.certificate.specs.CertificateRight.{Settled, CertificateRight, FileRight, GatesCertificateRight}
use Rattle.certificate.proofs.AnyRun.{found_true, short_true, found_false, short_false}
use Rattle.certificate.proofs.CertificateLaws.{own_borne}

abbrev zeros : List ℕ
zeros = replicate work_size 0

-- A text that is read so, and of which the program prints these bytes.
module _ (reading : Result) (bytes : List ℕ) (shown_so : bytes ≡ shown reading) (few : length bytes ≤ 128) (good : (s : Read) → reading ≡ taken s → Passes s) where
  -- By what is written and said.
  module _ (x : Output) (so : on_text reading zeros ≡ x) where
    written_so : written_of reading ≡ x.file
    unfolding written_of
    written_so = ap (λ (y : Output). y.file) so

    said_so : said_of reading ≡ x.lines
    unfolding said_of
    said_so = ap (λ (y : Output). y.lines) so

    unsettled : x.file ≡ [] → x.lines ≡ bytes → Begins bytes "c refused " ⊎ Begins bytes "s cnf -1 " → FileRight reading bytes
    unsettled none same begins =
        record {
          one_form = inr (inr (record { answered = begins; nothing = written_so ∙ none; same_lines = said_so ∙ same }));
          file_short = omega (arith, ap length (written_so ∙ none));
          lines_short = omega (arith, ap length (said_so ∙ same), few);
        }

    settled_as : (answer judgement : String) → x.lines ≡ [] → length x.file ≤ 4106 → Begins bytes answer → Prints reading x.file judgement
        → Settled reading bytes answer judgement × (length (written_of reading) ≤ 4106) × (length (said_of reading) ≤ 128)
    settled_as answer judgement none short begins accepted = (
      record {
        answered = begins;
        accepted = subst (λ (f : List ℕ). Prints reading f judgement) (sym written_so) accepted;
        silent = said_so ∙ none;
      },
      omega (arith, ap length written_so, short),
      omega (arith, ap length (said_so ∙ none)),
    )

  -- The text is refused.
  when_refused : (n line : ℕ) → reading ≡ refused n line → FileRight reading bytes
  when_refused n line e =
      let so : bytes ≡ refusal_line n line = shown_so ∙ ap shown e in
      unsettled (only_lines (refusal_line n line)) (ap (λ (r : Result). on_text r zeros) e) refl (sym so)
      (inl (subst (λ (bytes : List ℕ). Begins bytes "c refused ") (sym so) (refusal_begins n line)))

  -- The text is taken, and its formula has this outcome.
  module _ (kinds : List ℕ) (literals : List ℤ) (variables clause_count : ℕ) (passes : checked kinds literals ≡ Ok (sizes kinds literals))
      (prints : bytes ≡ result_of kinds literals variables clause_count)
      (puts : on_text reading zeros ≡ on_formula kinds literals variables clause_count)
      (finds : (f : List ℕ) → judging.finding_of reading f zeros ≡ (judging.on_formula kinds literals clause_count f zeros).finding) where
    abbrev end : Outcome
    end = settled kinds literals

    abbrev line_of : Answer → List ℕ
    line_of = Line variables clause_count end.round (length end.A) (length end.S)

    printed_line : bytes ≡ line_of end.answer
    unfolding result_of
    printed_line = prints

    puts_so : (a : Answer) → end.answer ≡ a → on_text reading zeros ≡ by_answer a (length kinds) variables clause_count end
    unfolding on_formula on_outcome
    puts_so a is = puts ∙ ap (λ (x : Answer). by_answer x (length kinds) variables clause_count end) is

    begins : (a : Answer) (start : String) → end.answer ≡ a → Begins (line_of a) start → Begins bytes start
    begins a start is b = subst (λ (bytes : List ℕ). Begins bytes start) (ap line_of (sym is) ∙ sym printed_line) b

    spent_begins : Begins (line_of spent) "s cnf -1 "
    unfolding result_lines line_one
    spent_begins = refl

    prints_1 : (f : List ℕ) → Finding.Accepted 1 ≡ (judging.on_formula kinds literals clause_count f zeros).finding → Prints reading f "accepted 1\n"
    unfolding judging.printed_of judging.accepted_line
    prints_1 f found = ap judging.line_of (finds f ∙ sym found)

    prints_0 : (f : List ℕ) → Finding.Accepted 0 ≡ (judging.on_formula kinds literals clause_count f zeros).finding → Prints reading f "accepted 0\n"
    unfolding judging.printed_of judging.accepted_line
    prints_0 f found = ap judging.line_of (finds f ∙ sym found)

    undecided : (a : Answer) → end.answer ≡ a → by_answer a (length kinds) variables clause_count end ≡ only_lines (lines_of variables clause_count end)
        → Begins (line_of a) "s cnf -1 " → FileRight reading bytes
    undecided a is same b =
        unsettled (only_lines (lines_of variables clause_count end)) (puts_so a is ∙ same) refl (sym printed_line) (inr (begins a "s cnf -1 " is b))

    by_end : (a : Answer) → end.answer ≡ a → FileRight reading bytes
    by_end is_true is =
        let s = settled_as _ (puts_so is_true is) "s cnf 1 " "accepted 1\n" refl (short_true kinds literals clause_count passes end (own_borne kinds literals) is)
        (begins is_true "s cnf 1 " is (true_begins variables clause_count end.round (length end.A) (length end.S)))
        (prints_1 _ (found_true kinds literals clause_count passes end (own_borne kinds literals) is)) in
        record { one_form = inl s.0; file_short = s.1; lines_short = s.2 }
    by_end is_false is =
        let s = settled_as _ (puts_so is_false is) "s cnf 0 " "accepted 0\n" refl (short_false kinds literals clause_count passes end (own_borne kinds literals) is)
        (begins is_false "s cnf 0 " is (false_begins variables clause_count end.round (length end.A) (length end.S)))
        (prints_0 _ (found_false kinds literals clause_count passes end (own_borne kinds literals) is)) in
        record { one_form = inr (inl s.0); file_short = s.1; lines_short = s.2 }
    by_end spent is = undecided spent is refl spent_begins
    by_end no_room_universal is =
        undecided no_room_universal is refl (no_room_universal_begins variables clause_count end.round (length end.A) (length end.S))
    by_end no_room_existential is =
        undecided no_room_existential is refl (no_room_existential_begins variables clause_count end.round (length end.A) (length end.S))

  sized : eqb (length zeros) work_size ≡ true
  sized = ap (λ (n : ℕ). eqb n work_size) (length-replicate {A = ℕ} work_size 0)

  by_reading : (r : Result) → reading ≡ r → FileRight reading bytes
  unfolding judging.finding_of
  by_reading (refused n line) e = when_refused n line e
  by_reading (taken s) e =
      by_end s.kinds s.literals s.variables s.clauses (good s e).accepted (shown_so ∙ ap shown e)
      (ap (λ (r : Result). on_text r zeros) e
      ∙ ap (λ (b : Bool). cond b (on_formula s.kinds s.literals s.variables s.clauses) (only_lines (refusal_line 5 0))) sized)
      (λ f. ap (λ (r : Result). (judging.on_text r f zeros).finding) e)
      (settled s.kinds s.literals).answer refl

  file_right : FileRight reading bytes
  file_right = by_reading reading refl

pub certificate_right : (text : List ℕ) → CertificateRight text
unfolding read printed
certificate_right text = file_right (text_read text) (printed text) refl (answer_right text).short (reading_passes false text)

pub gates_certificate_right : (text : List ℕ) → GatesCertificateRight text
unfolding read_gates gates_printed
gates_certificate_right text = file_right (gates_read text) (gates_printed text) refl (gates_answer_right text).lines.short (reading_passes true text)
