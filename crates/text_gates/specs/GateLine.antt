-- A gate line: its inputs, its clauses and their cause, by whether a name is known; and O's clause. Assumes nothing.
use Rattle.std.specs.Prelude.{ℕ, zero, suc, ◌+◌, ◌≡◌, Bool, cond, not, ◌&&◌, List, [], ◌∷◌, ltb, eqb, ℤ, pos, length, get_or, Result, Ok, Err}
use Rattle.cause.specs.declared.Cause.{Cause}
use Rattle.cause.specs.Cause.{unless_cause}
use Rattle.text_gates.specs.declared.Put.{Put}
use Rattle.formula.specs.Formula.{max_clauses}
use Rattle.gates.specs.Clauses.{gate_clauses, flat}
use Rattle.gates.specs.Put.{laid}
use Rattle.gates.specs.declared.Function.{Function}
use Rattle.gates.specs.declared.Function.TheVariants.{And, Or, Xor}
use Rattle.lines.specs.Lines.{Bytes, words, first, rest, second, same}
use Rattle.lines.specs.Numbers.{number, is_zero, negative, unsigned}
use Rattle.lines.specs.Shapes.{is_gate, and_word, or_word}
use Rattle.named.specs.Named.{max_variables, max_places, signed}
use Rattle.named.specs.Gates.{Gate}

-- 'Literals: v or -v', v being the name.
abbrev pub literal_of : Bytes → ℤ
literal_of w = signed (negative w) (number (unsigned w))

-- An input: 11, 19. 'It refuses with 19 an input or O that is neither bound nor an earlier gate.'
abbrev pub known_cause : (ℕ → Bool) → Bytes → ℕ
known_cause known w =
    cond (ltb max_variables (number (unsigned w))) 11
    (cond (known (number (unsigned w))) 0 19)

-- The first of two causes.
abbrev pub first_cause : ℕ → ℕ → ℕ
first_cause zero later = later
first_cause (suc cause) later = suc cause

-- The words of a gate line behind its name, from the left: the first cause of an input, and the inputs by name. The closing 0 has no cause.
abbrev pub known_causes : (ℕ → Bool) → List Bytes → ℕ
known_causes known [] = 0
known_causes known (w ∷ ws) =
    let more = known_causes known ws in
    cond (is_zero w) 0 (first_cause (known_cause known w) more)

abbrev pub inputs_of : List Bytes → List ℤ
inputs_of [] = []
inputs_of (w ∷ ws) =
    let more = inputs_of ws in
    cond (is_zero w) [] (literal_of w ∷ more)

-- The gate of a gate line's words, by its name.
abbrev pub function_of : Bytes → Function
function_of w = cond (same w and_word) And (cond (same w or_word) Or Xor)

abbrev pub gate_named : ℕ → List Bytes → Gate
gate_named v ws = record { function = function_of (first ws); name = v; inputs = inputs_of (rest (rest ws)) }

abbrev pub gate_of : List Bytes → Gate
gate_of ws = gate_named (number (second ws)) ws

-- The entries of its clauses, and how many clauses they are.
abbrev pub entries_of_gate : Gate → List ℤ
entries_of_gate gate = flat (gate_clauses gate.function (pos gate.name) gate.inputs)

abbrev pub clauses_of_gate : Gate → ℕ
clauses_of_gate gate = length (gate_clauses gate.function (pos gate.name) gate.inputs)

-- '14 covers .., after its tokens, a line whose clauses pass the limits': so many clauses and entries in all, in a table of so many places.
abbrev pub room_limit : ℕ → ℕ → ℕ → ℕ
room_limit room clauses entries = cond (ltb max_clauses clauses) 14 (cond (ltb room entries) 14 0)

-- A name has a mark in a table by name.
unfoldable pub marked : List ℕ → ℕ → Bool
marked P v = ltb v max_places && not (eqb (get_or P v 0) 0)

-- What is put of a line with the name v, and its cause, behind m entries and `made` clauses: 10 for its shape, then its inputs, then the limits.
abbrev pub line_entries : Bytes → ℕ → List ℤ
line_entries line v = entries_of_gate (gate_named v (words line))

abbrev pub line_clauses : Bytes → ℕ → ℕ
line_clauses line v = clauses_of_gate (gate_named v (words line))

unfoldable pub line_cause : (ℕ → Bool) → Bytes → ℕ → ℕ → ℕ → ℕ → ℕ
line_cause known line v made m room =
    cond (is_gate line)
    (first_cause (known_causes known (rest (rest (words line)))) (room_limit room (made + line_clauses line v) (m + length (line_entries line v))))
    10

-- O's cause: 19, then the limits.
unfoldable pub output_cause : (ℕ → Bool) → ℕ → ℕ → ℕ → ℕ → ℕ
output_cause known v made m room = cond (known v) (room_limit room (suc made) (m + 2)) 19

-- The entries used and the clauses made afterwards: a refusal leaves both.
abbrev pub entries_after : ℕ → Result Put Cause → ℕ
entries_after m (Ok put) = put.entries
entries_after m (Err cause) = m

abbrev pub made_after : ℕ → Result Put Cause → ℕ
made_after made (Ok put) = put.made
made_after made (Err cause) = made

-- What is returned: how far clauses were put, or the cause.
abbrev pub put_told : ℕ → List ℤ → ℕ → ℕ → ℕ → Result Put Cause
put_told cause zs clauses made m = unless_cause cause record { entries = m + length zs; made = made + clauses }

-- Entries, and as many clauses as they are, are put unless there is a cause.
pub record PutSo (cause : ℕ) (zs : List ℤ) (clauses made m : ℕ) (L : List ℤ) (r_cause r_entries r_made : ℕ) (L' : List ℤ) : Type 0 where
  pub caused : r_cause ≡ cause
  pub used : r_entries ≡ cond (eqb cause 0) (m + length zs) m
  pub all : r_made ≡ cond (eqb cause 0) (made + clauses) made
  pub table : L' ≡ cond (eqb cause 0) (laid L m zs) L
