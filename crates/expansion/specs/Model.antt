-- Models, their order, and the first model. Assumes nothing.
use Rattle.std.specs.Prelude.{ℕ, zero, suc, Bool, true, not, ◌&&◌, cond, List, [], ◌∷◌, map, length}
use Rattle.std.proofs.Math.Option.{Option, none, some}
use Rattle.formula.specs.Formula.{Kind}
use Rattle.expansion.specs.Side.{flags, goal}
use Rattle.expansion.specs.Play.{Row, Strategy, play, yield}
use Rattle.expansion.specs.Copies.{copies, value_of}

-- 'A model gives the copies values so that, for each row, the row and its copies' reach the side's goal psi.
abbrev pub wins : List Bool → (List Bool → Bool) → Strategy → List Row → Bool
wins ts psi σ [] = true
wins ts psi σ (row ∷ rows) = psi (play ts σ row) && wins ts psi σ rows

-- Values for the copies over the rows, by number, read as a strategy.
abbrev pub strategy_of : List Bool → List Row → List Bool → Strategy
strategy_of ts rows vs = value_of (copies ts rows) vs

-- The values by number are a model.
unfoldable pub is_model : List Bool → (List Bool → Bool) → List Row → List Bool → Bool
is_model ts psi rows vs = wins ts psi (strategy_of ts rows vs) rows

-- 'Of two models, the first is the one that has the preferred value at the lowest copy where they differ; copy i prefers preference i':
-- of the lists of m values, the first in this order that passes the test. The values behind the first are looked at only after the first's choice.
abbrev pub with_front : Bool → Option (List Bool) → Option (List Bool)
with_front v none = none
with_front v (some vs) = some (v ∷ vs)

abbrev pub or_else : Option (List Bool) → Option (List Bool) → Option (List Bool)
or_else none b = b
or_else (some vs) b = some vs

abbrev pub first_passing : ℕ → (ℕ → Bool) → (List Bool → Bool) → Option (List Bool)
first_passing zero prefer test = cond (test []) (some []) none
first_passing (suc m) prefer test =
    let second = with_front (not (prefer zero)) (first_passing m (λ i. prefer (suc i)) (λ vs. test (not (prefer zero) ∷ vs))) in
    or_else (with_front (prefer zero) (first_passing m (λ i. prefer (suc i)) (λ vs. test (prefer zero ∷ vs)))) second

-- 'The search returns the first model, or none if there is none.'
unfoldable pub first_model : (ℕ → Bool) → List Bool → (List Bool → Bool) → List Row → Option (List Bool)
first_model prefer ts psi rows = first_passing (length (copies ts rows)) prefer (is_model ts psi rows)

-- What each row yields under the values of a model, in the rows' order.
abbrev pub yields : List Bool → List Row → List Bool → List Row
yields ts rows vs = map (yield ts (strategy_of ts rows vs)) rows

abbrev pub yielded : List Bool → List Row → Option (List Bool) → Option (List Row)
yielded ts rows none = none
yielded ts rows (some vs) = some (yields ts rows vs)

-- A side's search over the other's rows: what the rows yield under the first model, or none.
unfoldable pub search : (ℕ → Bool) → Kind → List Kind → (List Bool → Bool) → List Row → Option (List Row)
search prefer side ks phi rows = yielded (flags side ks) rows (first_model prefer (flags side ks) (goal side phi) rows)
