-- 01's full output, from the text's bytes to the printed ones, as an equation of the definition. Assumes nothing.
use Prim.Native.Nat.{ℕ}
use native.Mathlib.Omega.{arith}
use mathlib.Core.Path.{◌≡◌, refl, ap, ◌∙◌}
use mathlib.Core.List.{List, [], ◌∷◌, ◌++◌}
use lib.IntN.{ℤ, pos, negsuc}
use lib.ListN.{length}
use Rattle.preference.specs.Preference.{prefer, parity}
use Rattle.expansion.specs.Model.{search, first_model, is_model}
use Rattle.expansion.specs.Copies.{copies}
use Rattle.rounds.specs.Run.{Lent, Outcome, clears, round_of, run, number}
use Rattle.rounds.proofs.RoundLaws.{Over}
use Rattle.rounds.proofs.RunLaws.{run_stays}
use Rattle.lines.specs.Lines.{lines, words}
use Rattle.lines.specs.Numbers as Numbers
use Rattle.lines.specs.Shapes.{is_comment, is_trimmed, is_problem, is_led, is_clause}
use Rattle.named.specs.Named.{position}
use Rattle.text.specs.Reading.{Read, taken, name_cause, prefix_line, literal_cause, entry, free_with, clause_line, body_line, problem_cause, opened, scan, closed, read, text_read}
use Rattle.report.specs.Report.{ascii, decimal, line_one, line_two, result_lines}
use Rattle.decision.specs.Decision.{own_lent}
use Rattle.answer.specs.Printed.{round_limit, settled, result_of, shown, printed}

abbrev text : List ℕ
text = ascii "p cnf 2 2\n" ++ ascii "a 1 0\n" ++ ascii "e 2 0\n" ++ ascii "1 2 0\n" ++ ascii "-1 -2 0\n"

abbrev kinds : List ℕ
kinds = 1 ∷ 0 ∷ []

abbrev literals : List ℤ
literals = pos 1 ∷ pos 2 ∷ pos 0 ∷ negsuc 0 ∷ negsuc 1 ∷ pos 0 ∷ []

abbrev formula : Read
formula = record { kinds = kinds; names = 1 ∷ 2 ∷ []; literals = literals; variables = 2; clauses = 2 }

read_so : text_read text ≡ taken formula
unfolding read scan closed lines words Numbers.number_within Numbers.number_shape Numbers.unsigned is_comment is_trimmed is_problem is_led is_clause problem_cause opened body_line prefix_line clause_line name_cause literal_cause entry free_with position
read_so = refl

-- The run has ended in round 2.
abbrev l : Lent
l = own_lent kinds literals

over : Over (run l 2).answer
unfolding prefer parity run round_of clears search first_model is_model copies
over = tt

settled_so : settled kinds literals ≡ run l 2
settled_so = run_stays l 2 round_limit (omega arith) over

lines_so : (let o = run l 2 in result_lines (number o.answer) 2 2 o.round (length o.A) (length o.S))
    ≡ ascii "s cnf 1 2 2\n" ++ ascii "c rounds 2 universal 2 existential 2\n"
unfolding prefer parity run round_of clears search first_model is_model copies result_lines line_one line_two decimal
lines_so = refl

pub worked_answer : printed text ≡ ascii "s cnf 1 2 2\n" ++ ascii "c rounds 2 universal 2 existential 2\n"
unfolding printed result_of
worked_answer =
    ap shown read_so ∙ ap (λ (o : Outcome). result_lines (number o.answer) 2 2 o.round (length o.A) (length o.S)) settled_so ∙ lines_so
