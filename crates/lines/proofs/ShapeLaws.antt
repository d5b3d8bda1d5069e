-- Words closed by zero, taken from the left. Assumes nothing.
use Prim.Native.Nat.{ℕ, ◌-◌}
use mathlib.Core.Path.{◌≡◌, refl, ap, ◌∙◌}
use mathlib.Core.Bool.{Bool, ◌&&◌}
use mathlib.Core.List.{List}
use lib.Dec.{ltb}
use lib.ListN.{take, drop}
use Rattle.lines.specs.Lines.{Bytes, words, first, rest}
use Rattle.lines.specs.Numbers.{no_number}
use Rattle.lines.specs.Places.{Next}

-- The next word of a line whose words from i on are known.
pub taken_word : {line : Bytes} {i start end : ℕ} {ws : List Bytes} → Next line i start end → words (drop i line) ≡ ws
    → (take (end - start) (drop start line) ≡ first ws) × (words (drop end line) ≡ rest ws)
taken_word n e = (n.word ∙ ap first e, n.others ∙ ap rest e)

-- The parts of a p line in the definition's order.
pub whole_problem : (a b d : Bool) {opens ends e : Bool} {m n m' n' : ℕ} → opens ≡ (a && b && d) → ends ≡ e → m ≡ m' → n ≡ n'
    → (opens && ends && ltb m no_number && ltb n no_number) ≡ (a && b && d && e && ltb m' no_number && ltb n' no_number)
whole_problem a b d o q v c = rw (o, q, v, c) refl
