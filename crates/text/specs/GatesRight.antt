-- Gate lists: 'The meaning takes the value of O as the matrix under the prefix', and 'their verdict is that meaning'. The prefix, the gates and O are
-- those of the text's own lines, by name; no clause and no position occurs in them. Assumes nothing.
use Rattle.std.specs.Prelude.{ℕ, ◌≡◌, Bool, cond, List, [], ◌∷◌, ◌++◌, ℤ, length, replicate}
use Rattle.formula.specs.Formula.{prefix}
use Rattle.formula.specs.Meaning.{verdict}
use Rattle.lines.specs.Lines.{Bytes, Line, ended, unended, lines, words, first, rest, fifth}
use Rattle.lines.specs.Numbers.{number, is_zero}
use Rattle.lines.specs.Shapes.{is_comment, is_gate}
use Rattle.named.specs.Named.{Values, named_meaning}
use Rattle.named.specs.Gates.{Gate, circuit}
use Rattle.text.specs.Form.{p_words}
use Rattle.text.specs.Reading.{literal_of, kind_of_word, gate_of, Read, taken, gates_read}

-- What the lines behind the p line say: the kind and the name of each unknown in prefix order, and the gates in order.
pub record Drawing : Type 0 where
  pub kinds : List ℕ
  pub names : List ℕ
  pub gates : List Gate

-- The names of a prefix line are its words up to its 0.
abbrev pub names_in : List Bytes → List ℕ
names_in [] = []
names_in (w ∷ ws) =
    let more = names_in ws in
    cond (is_zero w) [] (number w ∷ more)

abbrev pub with_block : Drawing → ℕ → List ℕ → Drawing
with_block d kind names =
    record { kinds = d.kinds ++ replicate (length names) kind; names = d.names ++ names; gates = d.gates }

abbrev pub with_gate_line : Drawing → Gate → Drawing
with_gate_line d gate = record { kinds = d.kinds; names = d.names; gates = d.gates ++ (gate ∷ []) }

unfoldable pub draw_line : Drawing → Bytes → Drawing
draw_line d line =
    cond (is_gate line) (with_gate_line d (gate_of (words line))) (with_block d (kind_of_word (first (words line))) (names_in (rest (words line))))

abbrev pub draw : Drawing → List Line → Drawing
draw d [] = d
draw d (ended line ∷ ls) = draw (draw_line d line) ls
draw d (unended line ∷ ls) = draw d ls

-- The lines behind the p line, the first that is no c line.
abbrev pub behind_p : List Line → List Line
behind_p [] = []
behind_p (unended line ∷ ls) = ls
behind_p (ended line ∷ ls) =
    let more = behind_p ls in
    cond (is_comment line) more ls

abbrev pub nothing : Drawing
nothing = record { kinds = []; names = []; gates = [] }

unfoldable pub drawing : Bytes → Drawing
drawing text = draw nothing (behind_p (lines text))

unfoldable pub output_of : Bytes → ℤ
output_of text = literal_of (fifth (p_words (lines text)))

-- The verdict of what is written is the circuit's value under the prefix, whatever values names have that it does not bind.
abbrev pub GatesRight : Bytes → Type 0
GatesRight text =
    (r : Read) → gates_read text ≡ taken r → (g : Values)
    → verdict r.kinds r.literals ≡ named_meaning (prefix (drawing text).kinds) (drawing text).names (circuit (drawing text).gates (output_of text)) g

-- That value is this one.
abbrev pub CircuitIs : Bytes → Bool → Type 0
CircuitIs text value = (g : Values) → named_meaning (prefix (drawing text).kinds) (drawing text).names (circuit (drawing text).gates (output_of text)) g ≡ value
