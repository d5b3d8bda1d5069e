-- A formula with its first unknowns set to values (its restriction by them), written as a formula again: clauses with a true literal are dropped, and
-- so are literals that are false; the unknowns that are set are gone, and those behind them are named from 1. Assumes nothing.
use Rattle.std.specs.Prelude.{ℕ, zero, suc, ◌≡◌, Bool, true, false, List, [], ◌∷◌, ℤ, pos, negsuc, length, drop, Ok}
use Rattle.std.proofs.Math.Option.{Option, none, some}
use Rattle.formula.specs.Formula.{Clause, clauses}
use Rattle.formula.specs.Causes.{sizes, checked}
use Rattle.trimming_rules.specs.Trimming.{entries}

-- 'A formula to which none of the causes 1 to 3 applies is accepted.'
abbrev pub IsAccepted : List ℕ → List ℤ → Type 0
IsAccepted kinds literals = checked kinds literals ≡ Ok (sizes kinds literals)

-- The unknown at a position, where the first ones are set to values: it is one of them, and has its value; or it stands behind them, and has a
-- position there.
pub data Standing : Type 0 where
  known : Bool → Standing
  behind : ℕ → Standing

abbrev pub standing : List Bool → ℕ → Standing
standing [] v = behind v
standing (b ∷ vs) zero = known b
standing (b ∷ vs) (suc v) = standing vs v

-- A literal is then true, or false, or one over the unknowns behind. (No literal is 0; as in `literal`, it would be false.)
pub data Remains : Type 0 where
  is_true : Remains
  is_false : Remains
  stays : ℤ → Remains

abbrev pub plain : Standing → Remains
plain (known true) = is_true
plain (known false) = is_false
plain (behind v) = stays (pos (suc v))

abbrev pub negated : Standing → Remains
negated (known true) = is_false
negated (known false) = is_true
negated (behind v) = stays (negsuc v)

abbrev pub of_literal : List Bool → ℤ → Remains
of_literal vs (pos zero) = is_false
of_literal vs (pos (suc v)) = plain (standing vs v)
of_literal vs (negsuc v) = negated (standing vs v)

-- Of a clause nothing remains if a literal is true, else the literals that stay.
abbrev pub in_front : Remains → Option Clause → Option Clause
in_front is_true rest = none
in_front is_false rest = rest
in_front (stays z) none = none
in_front (stays z) (some c) = some (z ∷ c)

abbrev pub of_clause : List Bool → Clause → Option Clause
of_clause vs [] = some []
of_clause vs (z ∷ c) = in_front (of_literal vs z) (of_clause vs c)

abbrev pub if_left : Option Clause → List Clause → List Clause
if_left none cs = cs
if_left (some c) cs = c ∷ cs

abbrev pub of_clauses : List Bool → List Clause → List Clause
of_clauses vs [] = []
of_clauses vs (c ∷ cs) = if_left (of_clause vs c) (of_clauses vs cs)

-- The literals of the formula with its first unknowns set to vs ..
unfoldable pub restricted : List Bool → List ℤ → List ℤ
restricted vs literals = entries (of_clauses vs (clauses literals))

-- .. and its kinds.
abbrev pub kinds_behind : List Bool → List ℕ → List ℕ
kinds_behind vs kinds = drop (length vs) kinds
