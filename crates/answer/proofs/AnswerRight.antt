-- What printed lines say, for every text. Assumes nothing.
use Prim.Native.Nat.{ℕ, zero, suc, ◌+◌, ◌-◌, ◌≤◌}
use native.Mathlib.Omega.{arith}
use mathlib.Core.Path.{◌≡◌, refl, sym, ap, subst, ◌∙◌}
use mathlib.Core.Bool.{Bool, true, false}
use mathlib.Core.List.{List}
use Prim.Native.String.{String}
use mathlib.Core.Logic.{◌⊎◌, inl, inr}
use lib.ListN.{length}
use Rattle.formula.specs.Formula.{max_unknowns, max_entries, max_rows, universal, existential}
use Rattle.formula.specs.Meaning.{verdict}
use Rattle.rounds.specs.Run.{Answer, is_false, is_true, spent, no_room_universal, no_room_existential, Outcome}
use Rattle.rounds.proofs.Verdict.{verdict_right}
use Rattle.rounds.proofs.RunLaws.{run_reached}
use Rattle.rounds.proofs.Bounds.{count_in_room, next_round_in_room}
use Rattle.named.specs.Names.{In}
use Rattle.text.specs.Reading.{max_bytes, Read, Result as Reading, taken, refused, text_read, text_causes}
use Rattle.text.proofs.TextLaws.{OfText, Results, Passes, read_passes, refused_line}
use Rattle.report.specs.Report.{refusal_line}
use Rattle.decision.specs.Decision.{own_lent}
use Rattle.answer.specs.Printed.{round_limit, settled, result_of, shown, printed}
use Rattle.answer.specs.AnswerRight.{Begins, Result, ended, LinesRight, AnswerRight}
use Rattle.answer.proofs.PrintedLaws.{result_short, refusal_short, refusal_begins, refusal_not_true, refusal_not_false, refusal_not_undecided, Line, true_begins, false_begins, no_room_universal_begins, no_room_existential_begins, result_no_refusal, true_if_1, false_if_0, not_settled_if_minus}

-- Lines of a reading whose causes and formulas are as the reader has them, and whose verdict means what is to be meant.
module _ (numbers : List ℕ) (reading : Reading) (Means : Read → Bool → Type 0) (bytes : List ℕ) (shown_so : bytes ≡ shown reading)
    (bad : (n line : ℕ) → reading ≡ refused n line → In n numbers × (n ≤ 20) × (line ≤ 2 + max_bytes))
    (good : (s : Read) → reading ≡ taken s → Passes s)
    (means : (s : Read) → reading ≡ taken s → (value : Bool) → verdict s.kinds s.literals ≡ value → Means s value) where
  -- The text is refused.
  module _ (n line : ℕ) (e : reading ≡ refused n line) where
    refused_printed : bytes ≡ refusal_line n line
    refused_printed = shown_so ∙ ap shown e

    begins_so : (start : String) → Begins bytes start → Begins (refusal_line n line) start
    begins_so start b = subst (λ (l : List ℕ). Begins l start) refused_printed b

    when_refused : LinesRight numbers reading Means bytes
    when_refused =
        let number = bad n line e in
        record {
          one_form = inl (subst (λ (l : List ℕ). Begins l "c refused ") (sym refused_printed) (refusal_begins n line));
          short = subst (λ (l : List ℕ). length l ≤ 128) (sym refused_printed) (refusal_short n line (omega (arith, number.1)) (omega (arith, number.2)));
          refusal = λ _. record { n = n; line = line; read_so = e; known = number.0; printed_so = refused_printed };
          only_true = λ b. absurd (refusal_not_true n line (begins_so "s cnf 1 " b));
          only_false = λ b. absurd (refusal_not_false n line (begins_so "s cnf 0 " b));
          undecided = λ b. absurd (refusal_not_undecided n line (begins_so "s cnf -1 " b));
        }

  -- The text is taken.
  module _ (s : Read) (e : reading ≡ taken s) where
    abbrev o : Outcome
    o = settled s.kinds s.literals

    abbrev line_of : Answer → List ℕ
    line_of = Line s.variables s.clauses o.round (length o.A) (length o.S)

    taken_printed : bytes ≡ line_of o.answer
    unfolding result_of
    taken_printed = shown_so ∙ ap shown e

    result : Result reading bytes
    result = record { formula = s; read_so = e; printed_so = taken_printed }

    -- With 256 rows a side no run makes 1,000 rounds.
    not_spent : o.answer ≡ spent → ⊥
    not_spent is = let most : round_limit ≤ max_rows = next_round_in_room (own_lent s.kinds s.literals) round_limit (omega arith) is in omega arith

    right_true : o.answer ≡ is_true → Means s true
    unfolding verdict
    right_true is = means s e true ((verdict_right (own_lent s.kinds s.literals) round_limit).only_true is)

    right_false : o.answer ≡ is_false → Means s false
    unfolding verdict
    right_false is = means s e false ((verdict_right (own_lent s.kinds s.literals) round_limit).only_false is)

    begins : (start : String) → Begins bytes start → Begins (line_of o.answer) start
    begins start b = subst (λ (l : List ℕ). Begins l start) taken_printed b

    printed_begins : (a : Answer) (start : String) → o.answer ≡ a → Begins (line_of a) start → Begins bytes start
    printed_begins a start is b = subst (λ (l : List ℕ). Begins l start) (ap line_of (sym is) ∙ sym taken_printed) b

    form : (a : Answer) → o.answer ≡ a → Begins bytes "c refused " ⊎ Begins bytes "s cnf 1 " ⊎ Begins bytes "s cnf 0 " ⊎ Begins bytes "s cnf -1 "
    form is_true is = inr (inl (printed_begins is_true "s cnf 1 " is (true_begins _ _ _ _ _)))
    form is_false is = inr (inr (inl (printed_begins is_false "s cnf 0 " is (false_begins _ _ _ _ _))))
    form spent is = absurd (not_spent is)
    form no_room_universal is = inr (inr (inr (printed_begins no_room_universal "s cnf -1 " is (no_room_universal_begins _ _ _ _ _))))
    form no_room_existential is = inr (inr (inr (printed_begins no_room_existential "s cnf -1 " is (no_room_existential_begins _ _ _ _ _))))

    no_room : (a : Answer) → o.answer ≡ a → (a ≡ is_true → ⊥) × (a ≡ is_false → ⊥) → (ended result ≡ no_room_universal) ⊎ (ended result ≡ no_room_existential)
    unfolding result
    no_room is_true is other = absurd (other.0 refl)
    no_room is_false is other = absurd (other.1 refl)
    no_room spent is other = absurd (not_spent is)
    no_room no_room_universal is other = inl is
    no_room no_room_existential is other = inr is

    when_taken : LinesRight numbers reading Means bytes
    unfolding result
    when_taken =
        let passes = good s e in
        let l = own_lent s.kinds s.literals in
        record {
          one_form = form o.answer refl;
          short = subst (λ (l : List ℕ). length l ≤ 128) (sym taken_printed) (result_short _ _ _ _ _ _ (omega (arith, passes.few_variables)) (omega (arith, passes.few_clauses))
              (omega (arith, (run_reached l round_limit).round_a refl, count_in_room l round_limit universal (omega arith))) (omega (arith, count_in_room l round_limit universal (omega arith)))
              (omega (arith, count_in_room l round_limit existential (omega arith))));
          refusal = λ b. absurd (result_no_refusal _ _ _ _ _ o.answer (begins "c refused " b));
          only_true = λ b. (result, right_true (true_if_1 _ _ _ _ _ o.answer (begins "s cnf 1 " b)));
          only_false = λ b. (result, right_false (false_if_0 _ _ _ _ _ o.answer (begins "s cnf 0 " b)));
          undecided = λ b. (result, no_room o.answer refl (not_settled_if_minus _ _ _ _ _ o.answer (begins "s cnf -1 " b)));
        }

  pub lines_right : LinesRight numbers reading Means bytes
  lines_right = go reading refl
    where
      go : (r : Reading) → reading ≡ r → LinesRight numbers reading Means bytes
      go (taken s) e = when_taken s e
      go (refused n line) e = when_refused n line e

-- A text of clauses.
of_text : (n : ℕ) → OfText n → In n text_causes
of_text n t = go (n - 9) (omega (arith, t.from_9))
  where
    go : (k : ℕ) → n ≡ 9 + k → In n text_causes
    go zero e = inl (omega (arith, e))
    go (suc zero) e = inr (inl (omega (arith, e)))
    go (suc (suc zero)) e = inr (inr (inl (omega (arith, e))))
    go (suc (suc (suc zero))) e = inr (inr (inr (inl (omega (arith, e)))))
    go (suc (suc (suc (suc zero)))) e = absurd (t.not_13 (omega (arith, e)))
    go (suc (suc (suc (suc (suc zero))))) e = inr (inr (inr (inr (inl (omega (arith, e))))))
    go (suc (suc (suc (suc (suc (suc k)))))) e = absurd (omega (arith, e, t.to_14))

pub answer_right : (text : List ℕ) → AnswerRight text
unfolding printed
answer_right text =
    lines_right text_causes (text_read text) (λ r value. verdict r.kinds r.literals ≡ value) (printed text) refl
    (λ n line e.
    let t = subst (Results Passes) e (read_passes text max_unknowns max_entries max_unknowns) in
    (of_text n t, omega (arith, t.to_14), refused_line text max_unknowns max_entries max_unknowns n line e))
    (λ s e. subst (Results Passes) e (read_passes text max_unknowns max_entries max_unknowns))
    (λ s e value v. v)
