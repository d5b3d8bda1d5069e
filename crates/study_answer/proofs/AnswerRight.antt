-- What a study's printed lines say, for every text and gate list. Assumes nothing.
use Prim.Native.Nat.{ℕ, suc, ◌≤◌}
use mathlib.Core.Path.{◌≡◌, refl, sym, ap, subst, ◌∙◌}
use mathlib.Core.Bool.{Bool, true, false}
use mathlib.Core.List.{List}
use Prim.Native.String.{String}
use mathlib.Core.Logic.{◌⊎◌, inl, inr}
use lib.ListN.{length, replicate}
use Rattle.formula.specs.Formula.{work_size}
use Rattle.formula.specs.Meaning.{verdict}
use Rattle.rounds.specs.Run.{Answer, is_false, is_true, spent, no_room_universal, no_room_existential, number}
use Rattle.engine.specs.Outcome.{named, number_of}
use Rattle.engine.proofs.run.OutcomeLaws.{number_named}
use Rattle.text.specs.Reading.{Read, taken, refused, read_gates, read_as}
use Rattle.text.proofs.GatesRight.{gates_right}
use Rattle.report.specs.Report.{refusal_line}
use Rattle.report.specs.Studied.{study_lines}
use Rattle.answer.specs.AnswerRight.{Begins}
use Rattle.answer.proofs.PrintedLaws.{refusal_begins, refusal_not_true, refusal_not_false, refusal_not_undecided}
use Rattle.study.specs.declared.Studied.{Studied}
use Rattle.study_answer.specs.House.{house_study}
use Rattle.study_answer.specs.Printed.{lines_of, result_of, shown, printed}
use Rattle.study_answer.specs.AnswerRight.{Settles, Result, Means, StudyAnswerRight}
use Rattle.study_answer.proofs.PrintedLaws.{study_short, refusal_short, Lines, true_begins, false_begins, spent_begins, no_room_universal_begins, no_room_existential_begins, study_no_refusal, true_if_1, false_if_0}

-- The verdict of what is read is the value of the text, in either form.
pub means : (gates : Bool) (text : List ℕ) (s : Read) (value : Bool) → read_as gates text ≡ taken s → verdict s.kinds s.literals ≡ value → Means gates text s value
unfolding read_gates
means false text s value e is = is
means true text s value e is = λ g. sym (gates_right text s e g) ∙ is

module _ (gates : Bool) (text : List ℕ) where
  abbrev Forms : Type 0
  Forms = Begins (printed gates text) "c refused " ⊎ Begins (printed gates text) "s cnf 1 " ⊎ Begins (printed gates text) "s cnf 0 " ⊎ Begins (printed gates text) "s cnf -1 "

  -- The text is refused.
  module _ (n line : ℕ) (e : read_as gates text ≡ refused n line) where
    refused_printed : printed gates text ≡ refusal_line n line
    unfolding printed
    refused_printed = ap shown e

    begins_so : (start : String) → Begins (printed gates text) start → Begins (refusal_line n line) start
    begins_so start b = subst (λ (bytes : List ℕ). Begins bytes start) refused_printed b

    pub when_refused : StudyAnswerRight gates text
    when_refused =
        record {
          one_form = inl (subst (λ (bytes : List ℕ). Begins bytes "c refused ") (sym refused_printed) (refusal_begins n line));
          short = subst (λ (bytes : List ℕ). length bytes ≤ 192) (sym refused_printed) (refusal_short n line);
          refusal = λ _. record { n = n; line = line; read_so = e; printed_so = refused_printed };
          only_true = λ b. absurd (refusal_not_true n line (begins_so "s cnf 1 " b));
          only_false = λ b. absurd (refusal_not_false n line (begins_so "s cnf 0 " b));
          undecided = λ b. absurd (refusal_not_undecided n line (begins_so "s cnf -1 " b));
        }

  -- The text is taken.
  module _ (s : Read) (e : read_as gates text ≡ taken s) (settles : Settles s.kinds s.literals) where
    abbrev r : Studied
    r = (house_study s.kinds s.literals (replicate work_size 0)).result

    abbrev lines_by : Answer → List ℕ
    lines_by = Lines s.variables s.clauses (suc r.setting) r.outcome.round r.outcome.universal r.outcome.existential

    abbrev a : Answer
    a = settles.answered.answer

    printed_lines : printed gates text ≡ lines_of s.variables s.clauses r
    unfolding printed result_of
    printed_lines = ap shown e

    taken_printed : printed gates text ≡ lines_by a
    taken_printed =
        printed_lines
        ∙ ap (λ (k : ℕ). study_lines k s.variables s.clauses (suc r.setting) r.outcome.round r.outcome.universal r.outcome.existential)
        (ap number_of settles.answered.answer_so ∙ number_named a)

    result : Result gates text
    result = record { formula = s; read_so = e; settles = settles; printed_so = printed_lines }

    right_true : a ≡ is_true → verdict s.kinds s.literals ≡ true
    right_true is = settles.right.only_true (settles.answered.answer_so ∙ ap named is)

    right_false : a ≡ is_false → verdict s.kinds s.literals ≡ false
    right_false is = settles.right.only_false (settles.answered.answer_so ∙ ap named is)

    begins : (start : String) → Begins (printed gates text) start → Begins (lines_by a) start
    begins start b = subst (λ (bytes : List ℕ). Begins bytes start) taken_printed b

    printed_begins : (b : Answer) (start : String) → a ≡ b → Begins (lines_by b) start → Begins (printed gates text) start
    printed_begins b start is h = subst (λ (bytes : List ℕ). Begins bytes start) (ap lines_by (sym is) ∙ sym taken_printed) h

    form : (b : Answer) → a ≡ b → Forms
    form is_true is = inr (inl (printed_begins is_true "s cnf 1 " is (true_begins _ _ _ _ _ _)))
    form is_false is = inr (inr (inl (printed_begins is_false "s cnf 0 " is (false_begins _ _ _ _ _ _))))
    form spent is = inr (inr (inr (printed_begins spent "s cnf -1 " is (spent_begins _ _ _ _ _ _))))
    form no_room_universal is = inr (inr (inr (printed_begins no_room_universal "s cnf -1 " is (no_room_universal_begins _ _ _ _ _ _))))
    form no_room_existential is = inr (inr (inr (printed_begins no_room_existential "s cnf -1 " is (no_room_existential_begins _ _ _ _ _ _))))

    pub when_taken : StudyAnswerRight gates text
    unfolding result
    when_taken =
        record {
          one_form = form a refl;
          short = subst (λ (bytes : List ℕ). length bytes ≤ 192) (sym taken_printed) (study_short (number a) _ _ _ _ _ _);
          refusal = λ b. absurd (study_no_refusal _ _ _ _ _ _ a (begins "c refused " b));
          only_true = λ b. (result, means gates text s true e (right_true (true_if_1 _ _ _ _ _ _ a (begins "s cnf 1 " b))));
          only_false = λ b. (result, means gates text s false e (right_false (false_if_0 _ _ _ _ _ _ a (begins "s cnf 0 " b))));
          undecided = λ b. result;
        }
