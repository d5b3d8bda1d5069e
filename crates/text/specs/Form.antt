-- The form of a text, clauses or gates. A reader is told it, or finds it out: the first line that is no comment begins `p gate` or not, and every
-- refusal is then that reader's. Assumes nothing.
use Rattle.std.specs.Prelude.{ℕ, zero, suc, Bool, true, false, cond, ◌&&◌, List, [], ◌∷◌}
use Rattle.text.specs.declared.Form.{Form}
use Rattle.text.specs.declared.Form.TheVariants.{Clauses, Gates, Either}
use Rattle.lines.specs.Lines.{Bytes, Line, ended, unended, lines, words, first, second, same}
use Rattle.lines.specs.Shapes.{is_comment, p_word, gate_word}
use Rattle.text.specs.Reading.{Result, read_as}

-- The words of the p line, the first line that is no c line.
abbrev pub p_words : List Line → List Bytes
p_words [] = []
p_words (unended line ∷ ls) = words line
p_words (ended line ∷ ls) =
    let more = p_words ls in
    cond (is_comment line) more (words line)

-- The first two words are `p gate`.
abbrev pub gates_told : List Bytes → Bool
gates_told ws = same (first ws) p_word && same (second ws) gate_word

unfoldable pub begins_gates : Bytes → Bool
begins_gates text = gates_told (p_words (lines text))

-- Whether a text is read as a gate list.
abbrev pub has_gates : Form → Bytes → Bool
has_gates Clauses text = false
has_gates Gates text = true
has_gates Either text = begins_gates text

-- What a text of that form gives.
abbrev pub form_read : Form → Bytes → Result
form_read form text = read_as (has_gates form text) text

-- The form that a byte tells, where a program has one in front of its text.
abbrev pub form_told : ℕ → Form
form_told zero = Clauses
form_told (suc zero) = Gates
form_told (suc (suc n)) = Either
