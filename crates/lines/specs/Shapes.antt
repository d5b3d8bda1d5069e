-- The shapes of lines. Assumes nothing.
use Rattle.std.specs.Prelude.{ℕ, ◌-◌, ◌≡◌, Bool, true, false, cond, not, ◌&&◌, ◌||◌, List, [], ◌∷◌, eqb, length, get_or}
use Rattle.lines.specs.Lines.{Bytes, words, first, rest, second, third, fourth, fifth, same}
use Rattle.lines.specs.Numbers.{number, unsigned, negative, is_number, is_zero, is_name, is_literal}

-- 'Lines beginning with c, their other bytes free'; byte 99 is c.
unfoldable pub is_comment : Bytes → Bool
is_comment line = eqb (get_or line 0 0) 99

-- 'None at either end': the line neither begins nor ends with a space.
unfoldable pub is_trimmed : Bytes → Bool
is_trimmed line = not (eqb (get_or line 0 0) 32) && not (eqb (get_or line (length line - 1) 0) 32)

abbrev pub is_empty : List Bytes → Bool
is_empty [] = true
is_empty (w ∷ ws) = false

-- The words `p`, `cnf` and `gate`, `a` and `e`, `&`, `|` and `^`.
abbrev pub p_word : Bytes
p_word = 112 ∷ []

abbrev pub cnf_word : Bytes
cnf_word = 99 ∷ 110 ∷ 102 ∷ []

abbrev pub gate_word : Bytes
gate_word = 103 ∷ 97 ∷ 116 ∷ 101 ∷ []

abbrev pub a_word : Bytes
a_word = 97 ∷ []

abbrev pub e_word : Bytes
e_word = 101 ∷ []

abbrev pub and_word : Bytes
and_word = 38 ∷ []

abbrev pub or_word : Bytes
or_word = 124 ∷ []

abbrev pub xor_word : Bytes
xor_word = 94 ∷ []

-- A text is a list of clauses, '`p cnf V C`', or of gates, '`p gate V G O`': the word behind `p`, and what stands behind both numbers.
abbrev pub form_word : Bool → Bytes
form_word false = cnf_word
form_word true = gate_word

abbrev pub ends_problem : Bool → List Bytes → Bool
ends_problem false ws = is_empty ws
ends_problem true ws = is_literal (first ws) && is_empty (rest ws)

unfoldable pub is_problem : Bool → Bytes → Bool
is_problem gates line =
    let ws = words line in
    is_trimmed line && same (first ws) p_word && same (second ws) (form_word gates) && ends_problem gates (rest (rest (rest (rest ws)))) && is_number (third ws)
    && is_number (fourth ws)

-- The numbers of a p line, and its literal.
pub record ProblemWords (gates : Bool) (line : Bytes) (good : Bool) (variables lines output : ℕ) (minus : Bool) : Type 0 where
  pub shape : good ≡ is_problem gates line
  pub v : variables ≡ number (third (words line))
  pub c : lines ≡ number (fourth (words line))
  pub o : output ≡ number (unsigned (fifth (words line)))
  pub sign : minus ≡ negative (fifth (words line))

-- Words of a kind, as many as there are, then `0` as the last word.
abbrev pub closed_by_zero : (Bytes → Bool) → List Bytes → Bool
closed_by_zero good [] = false
closed_by_zero good (w ∷ ws) =
    let more = closed_by_zero good ws in
    cond (is_zero w) (is_empty ws) (good w && more)

-- The words before a line's `0`: names, or literals if signed.
abbrev pub good_word : Bool → Bytes → Bool
good_word false w = is_name w
good_word true w = is_literal w

-- '`a` or `e`, one or more names, `0`'; '`&` or `|`, a gate name, inputs, `0`': a word of these, a name, and words closed by `0`.
abbrev pub leads : Bool → Bytes → Bool
leads false w = same w a_word || same w e_word
leads true w = same w and_word || (same w or_word || same w xor_word)

unfoldable pub is_led : Bool → Bytes → Bool
is_led gates line =
    let ws = words line in
    is_trimmed line && leads gates (first ws) && is_name (second ws) && closed_by_zero (good_word gates) (rest (rest ws))

abbrev pub is_prefix : Bytes → Bool
is_prefix line = is_led false line

-- 'Or `^`, a gate name, two inputs, `0`': three words behind the name, the `0` among them.
abbrev pub has_three : List Bytes → Bool
has_three ws = not (is_empty (rest (rest ws))) && is_empty (rest (rest (rest ws)))

abbrev pub three_if : Bool → List Bytes → Bool
three_if true ws = has_three ws
three_if false ws = true

unfoldable pub is_gate : Bytes → Bool
is_gate line = is_led true line && three_if (same (first (words line)) xor_word) (rest (rest (words line)))

-- 'Clause lines, literals, `0`, where `0` alone is an empty clause'.
unfoldable pub is_clause : Bytes → Bool
is_clause line = is_trimmed line && closed_by_zero is_literal (words line)
