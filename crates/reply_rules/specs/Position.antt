-- A game over a formula: the unknowns get their values one after the other, in prefix order, and the side that a claim belongs to (the winner) takes
-- its values from the rows of a witness. Claim true is the existential side's, claim false the universal one's. Assumes nothing.
use Rattle.std.specs.Prelude.{ℕ, ◌<◌, ◌≡◌, Bool, true, false, cond, List, [], ◌∷◌, ◌++◌, ℤ, length, get_or, take}
use Rattle.std.specs.Bool.{beq}
use Rattle.std.proofs.Math.Option.{Option, none, some}
use Rattle.formula.specs.Formula.{Kind, kind_of, prefix, clauses}
use Rattle.formula.specs.Meaning.{matrix}
use Rattle.expansion.specs.Play.{Row, first_value, later_values}
use Rattle.expansion.specs.Judge.{accepted}
use Rattle.case_rules.specs.Restricted.{restricted, kinds_behind}
use Rattle.case_rules.specs.Casebook.{offered}

-- The rows that begin with a value, behind it.
abbrev pub beginning : Bool → List Row → List Row
beginning v [] = []
beginning v (r ∷ rows) = cond (beq v (first_value r)) (later_values r ∷ beginning v rows) (beginning v rows)

-- The rows behind an unknown that is set to v: those that begin with v if the unknown is the winner's own, else all.
abbrev pub rows_behind : Bool → Bool → List Row → List Row
rows_behind true v rows = beginning v rows
rows_behind false v rows = rows

-- The rows that still fit the moves vs, the values of the first unknowns; what they say of the unknowns behind these.
abbrev pub fitting : Bool → List Kind → List Bool → List Row → List Row
fitting claim [] vs rows = rows
fitting claim (k ∷ ks) [] rows = rows
fitting claim (k ∷ ks) (v ∷ vs) rows = fitting claim ks vs (rows_behind (offered claim k) v rows)

-- The position is borne out: the judge accepts the rows that still fit for the formula with the moves set.
unfoldable pub borne_out : Bool → List ℕ → List ℤ → List Row → List Bool → Bool
borne_out claim kinds literals rows vs =
    accepted claim (prefix (kinds_behind vs kinds)) (matrix (clauses (restricted vs literals))) (fitting claim (prefix kinds) vs rows)

-- Whose the next unknown is.
pub data Turn : Type 0 where
  winners : Turn
  others : Turn
  none_left : Turn

abbrev pub turn_at : Bool → List ℕ → Turn
turn_at claim [] = none_left
turn_at claim (k ∷ kinds) = cond (offered claim (kind_of k)) winners others

abbrev pub turn : Bool → List ℕ → List Bool → Turn
turn claim kinds vs = turn_at claim (kinds_behind vs kinds)

-- The winner's value is one that leaves a position which is borne out, true if both do; there may be none.
abbrev pub first_held : Bool → Bool → Option Bool
first_held true held = some true
first_held false true = some false
first_held false false = none

abbrev pub reply_value : Bool → List ℕ → List ℤ → List Row → List Bool → Option Bool
reply_value claim kinds literals rows vs =
    first_held (borne_out claim kinds literals rows (vs ++ (true ∷ []))) (borne_out claim kinds literals rows (vs ++ (false ∷ [])))

-- The moves follow the replies: wherever it was the winner's turn, the value is the reply. The other side's are any.
abbrev pub Follows : Bool → List ℕ → List ℤ → List Row → List Bool → Type 0
Follows claim kinds literals rows vs =
    (d : ℕ) → d < length vs → turn claim kinds (take d vs) ≡ winners → reply_value claim kinds literals rows (take d vs) ≡ some (get_or vs d false)
