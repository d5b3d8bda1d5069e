-- Gate lists worked by hand: what is read of them, entry by entry. Assumes nothing.
use mathlib.Core.Path.{◌≡◌, refl}
use mathlib.Core.Bool.{true, false}
use mathlib.Core.List.{[], ◌∷◌}
use lib.IntN.{pos, negsuc}
use Rattle.formula.specs.Meaning.{verdict}
use Rattle.lines.specs.Lines.{Bytes, lines, words}
use Rattle.lines.specs.Numbers as Numbers
use Rattle.lines.specs.Shapes.{is_comment, is_trimmed, is_problem, is_led, is_gate}
use Rattle.named.specs.Named.{position}
use Rattle.text.specs.Reading.{read_gates, gates_read, scan, closed, taken, refused, problem_cause, opened, body_line, prefix_line, gate_line, name_cause, gate_cause, output_cause}

-- `p gate 2 3 9`, `a 2 0`, `e 1 0`, `& 9 2 1 0`, `^ 3 9 -2 0`, `| 5 3 1 0`.
abbrev three_gates : Bytes
three_gates = 112 ∷ 32 ∷ 103 ∷ 97 ∷ 116 ∷ 101 ∷ 32 ∷ 50 ∷ 32 ∷ 51 ∷ 32 ∷ 57 ∷ 10 ∷ 97 ∷ 32 ∷ 50 ∷ 32 ∷ 48 ∷ 10 ∷ 101 ∷ 32 ∷ 49 ∷ 32 ∷ 48 ∷ 10 ∷ 38 ∷ 32 ∷ 57 ∷ 32 ∷ 50 ∷ 32 ∷ 49 ∷ 32 ∷ 48 ∷ 10 ∷ 94 ∷ 32 ∷ 51 ∷ 32 ∷ 57 ∷ 32 ∷ 45 ∷ 50 ∷ 32 ∷ 48 ∷ 10 ∷ 124 ∷ 32 ∷ 53 ∷ 32 ∷ 51 ∷ 32 ∷ 49 ∷ 32 ∷ 48 ∷ 10 ∷ []

three_gates_read : gates_read three_gates
    ≡ taken (record {
      kinds = 1 ∷ 0 ∷ 0 ∷ 0 ∷ 0 ∷ [];
      names = 2 ∷ 1 ∷ 9 ∷ 3 ∷ 5 ∷ [];
      literals = negsuc 2 ∷ pos 1 ∷ pos 0 ∷ negsuc 2 ∷ pos 2 ∷ pos 0 ∷ pos 3 ∷ negsuc 0 ∷ negsuc 1 ∷ pos 0 ∷ negsuc 3 ∷ pos 3 ∷ negsuc 0 ∷ pos 0 ∷ negsuc 3 ∷ negsuc 2 ∷ pos 1 ∷ pos 0 ∷ pos 4 ∷ negsuc 2 ∷ negsuc 0 ∷ pos 0 ∷ pos 4 ∷ pos 3 ∷ pos 1 ∷ pos 0 ∷ pos 5 ∷ negsuc 3 ∷ pos 0 ∷ pos 5 ∷ negsuc 1 ∷ pos 0 ∷ negsuc 4 ∷ pos 4 ∷ pos 2 ∷ pos 0 ∷ pos 3 ∷ pos 0 ∷ [];
      variables = 2;
      clauses = 11;
    })
unfolding read_gates scan closed lines words Numbers.number_within Numbers.number_shape Numbers.unsigned is_comment is_trimmed is_problem is_led is_gate problem_cause opened body_line prefix_line gate_line name_cause gate_cause output_cause position
three_gates_read = refl

-- It is false.
three_gates_false : verdict (1 ∷ 0 ∷ 0 ∷ 0 ∷ 0 ∷ []) (negsuc 2 ∷ pos 1 ∷ pos 0 ∷ negsuc 2 ∷ pos 2 ∷ pos 0 ∷ pos 3 ∷ negsuc 0 ∷ negsuc 1 ∷ pos 0 ∷ negsuc 3 ∷ pos 3 ∷ negsuc 0 ∷ pos 0 ∷ negsuc 3 ∷ negsuc 2 ∷ pos 1 ∷ pos 0 ∷ pos 4 ∷ negsuc 2 ∷ negsuc 0 ∷ pos 0 ∷ pos 4 ∷ pos 3 ∷ pos 1 ∷ pos 0 ∷ pos 5 ∷ negsuc 3 ∷ pos 0 ∷ pos 5 ∷ negsuc 1 ∷ pos 0 ∷ negsuc 4 ∷ pos 4 ∷ pos 2 ∷ pos 0 ∷ pos 3 ∷ pos 0 ∷ []) ≡ false
unfolding verdict
three_gates_false = refl

-- `p gate 0 1 5`, `& 5 0`: true.
abbrev no_inputs : Bytes
no_inputs = 112 ∷ 32 ∷ 103 ∷ 97 ∷ 116 ∷ 101 ∷ 32 ∷ 48 ∷ 32 ∷ 49 ∷ 32 ∷ 53 ∷ 10 ∷ 38 ∷ 32 ∷ 53 ∷ 32 ∷ 48 ∷ 10 ∷ []

no_inputs_read : gates_read no_inputs ≡ taken (record { kinds = 0 ∷ []; names = 5 ∷ []; literals = pos 1 ∷ pos 0 ∷ pos 1 ∷ pos 0 ∷ []; variables = 0; clauses = 2 })
unfolding read_gates scan closed lines words Numbers.number_within Numbers.number_shape Numbers.unsigned is_comment is_trimmed is_problem is_led is_gate problem_cause opened body_line prefix_line gate_line name_cause gate_cause output_cause position
no_inputs_read = refl

no_inputs_true : verdict (0 ∷ []) (pos 1 ∷ pos 0 ∷ pos 1 ∷ pos 0 ∷ []) ≡ true
unfolding verdict
no_inputs_true = refl

-- `p gate 0 0 1`: O is unknown, at the p line.
abbrev no_lines : Bytes
no_lines = 112 ∷ 32 ∷ 103 ∷ 97 ∷ 116 ∷ 101 ∷ 32 ∷ 48 ∷ 32 ∷ 48 ∷ 32 ∷ 49 ∷ 10 ∷ []

no_lines_read : gates_read no_lines ≡ refused 19 1
unfolding read_gates scan closed lines words Numbers.number_within Numbers.number_shape Numbers.unsigned is_comment is_trimmed is_problem is_led is_gate problem_cause opened body_line prefix_line gate_line name_cause gate_cause output_cause position
no_lines_read = refl
