-- 02's C-11, the opening dispatch: the values of the first block, and that the formula keeps its verdict where the block is set to them. Assumes nothing.
use Rattle.std.specs.Prelude.{ℕ, zero, suc, ◌≡◌, Bool, List, [], ◌∷◌, ◌++◌, length, take, drop}
use Rattle.formula.specs.Formula.{Kind, existential, universal}
use Rattle.formula.specs.Meaning.{meaning}
use Rattle.expansion.specs.Play.{Row}
use Rattle.rounds.specs.Run.{rows, Answer, is_false, is_true, spent, no_room_universal, no_room_existential, Outcome, Lent}

-- 'The first block is the longest start of the prefix that is of one kind': how many unknowns of a kind stand before the first of the other kind.
abbrev pub block : Kind → List Kind → ℕ
block side [] = zero
block existential (existential ∷ ks) = suc (block existential ks)
block existential (universal ∷ ks) = zero
block universal (existential ∷ ks) = zero
block universal (universal ∷ ks) = suc (block universal ks)

-- The row at the last place.
abbrev pub last_row : List Row → Row
last_row [] = []
last_row (x ∷ []) = x
last_row (x ∷ y ∷ xs) = last_row (y ∷ xs)

-- The values of the first block in the last of a side's rows: the k-th unknown of the block is the k-th of its kind.
abbrev pub first_values : Kind → List Kind → List Row → List Bool
first_values side ks xs = take (block side ks) (last_row xs)

-- 'When the answer is true and the prefix starts existential, the run's result gives the values of the first block from the last existential
-- row; when it is false and the prefix starts universal, those from the last universal row; .. in other cases all is zero.'
abbrev pub opening_by : Answer → List Kind → Outcome → List Bool
opening_by is_true ks o = first_values existential ks (rows o.S)
opening_by is_false ks o = first_values universal ks (rows o.A)
opening_by spent ks o = []
opening_by no_room_universal ks o = []
opening_by no_room_existential ks o = []

unfoldable pub opening : List Kind → Outcome → List Bool
opening ks o = opening_by o.answer ks o

-- 'With the block's length.'
abbrev pub opening_length : Answer → List Kind → ℕ
opening_length is_true ks = block existential ks
opening_length is_false ks = block universal ks
opening_length spent ks = zero
opening_length no_room_universal ks = zero
opening_length no_room_existential ks = zero

-- The matrix with the first unknowns set to some values. Of the prefix what stands behind them is left.
abbrev pub set_to : List Bool → (List Bool → Bool) → List Bool → Bool
set_to vs phi ws = phi (vs ++ ws)

-- The values are those of the whole block, and 'the formula with that block set to those values has the same verdict'.
pub record Opens (l : Lent) (o : Outcome) : Type 0 where
  pub whole : length (opening l.ks o) ≡ opening_length o.answer l.ks
  pub same_verdict : meaning (drop (opening_length o.answer l.ks) l.ks) (set_to (opening l.ks o) l.phi) ≡ meaning l.ks l.phi
