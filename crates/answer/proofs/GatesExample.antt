-- The full output of a gate list, from its bytes to the printed ones, as an equation of the definition. Assumes nothing.
use Prim.Native.Nat.{ℕ}
use native.Mathlib.Omega.{arith}
use mathlib.Core.Path.{◌≡◌, refl, ap, ◌∙◌}
use mathlib.Core.List.{List, [], ◌∷◌, ◌++◌}
use lib.IntN.{ℤ, pos, negsuc}
use lib.ListN.{length}
use Rattle.preference.specs.Preference.{prefer, parity}
use Rattle.expansion.specs.Model.{search, first_model, is_model}
use Rattle.expansion.specs.Copies.{copies}
use Rattle.rounds.specs.Run.{Lent, Outcome, clears, round_of, run, number}
use Rattle.rounds.proofs.RoundLaws.{Over}
use Rattle.rounds.proofs.RunLaws.{run_stays}
use Rattle.lines.specs.Lines.{lines, words}
use Rattle.lines.specs.Numbers as Numbers
use Rattle.lines.specs.Shapes.{is_comment, is_trimmed, is_problem, is_led, is_gate}
use Rattle.named.specs.Named.{position}
use Rattle.text.specs.Reading.{taken, read_gates, gates_read, scan, closed, problem_cause, opened, body_line, prefix_line, gate_line, name_cause, gate_cause, output_cause}
use Rattle.report.specs.Report.{ascii, decimal, line_one, line_two, result_lines}
use Rattle.decision.specs.Decision.{own_lent}
use Rattle.answer.specs.Printed.{round_limit, settled, result_of, shown, gates_printed}

-- One gate, of a universal unknown: false, with V of the p line and three clauses made.
abbrev text : List ℕ
text = ascii "p gate 7 1 9\n" ++ ascii "a 4 0\n" ++ ascii "& 9 4 0\n"

abbrev kinds : List ℕ
kinds = 1 ∷ 0 ∷ []

abbrev literals : List ℤ
literals = negsuc 1 ∷ pos 1 ∷ pos 0 ∷ pos 2 ∷ negsuc 0 ∷ pos 0 ∷ pos 2 ∷ pos 0 ∷ []

read_so : gates_read text ≡ taken (record { kinds = kinds; names = 4 ∷ 9 ∷ []; literals = literals; variables = 7; clauses = 3 })
unfolding read_gates scan closed lines words Numbers.number_within Numbers.number_shape Numbers.unsigned is_comment is_trimmed is_problem is_led is_gate problem_cause opened body_line prefix_line gate_line name_cause gate_cause output_cause position
read_so = refl

abbrev l : Lent
l = own_lent kinds literals

over : Over (run l 1).answer
unfolding prefer parity run round_of clears search first_model is_model copies
over = tt

settled_so : settled kinds literals ≡ run l 1
settled_so = run_stays l 1 round_limit (omega arith) over

lines_so : (let o = run l 1 in result_lines (number o.answer) 7 3 o.round (length o.A) (length o.S))
    ≡ ascii "s cnf 0 7 3\n" ++ ascii "c rounds 1 universal 1 existential 0\n"
unfolding prefer parity run round_of clears search first_model is_model copies result_lines line_one line_two decimal
lines_so = refl

pub worked_list : gates_printed text ≡ ascii "s cnf 0 7 3\n" ++ ascii "c rounds 1 universal 1 existential 0\n"
unfolding gates_printed result_of
worked_list =
    ap shown read_so ∙ ap (λ (o : Outcome). result_lines (number o.answer) 7 3 o.round (length o.A) (length o.S)) settled_so ∙ lines_so
