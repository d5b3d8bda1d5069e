-- The first model: 'The search returns the first model, or none if there is none.'
-- What `first_model` returns has a value for each copy, is a model, and leads every other model (`first_is_first`); there is one such list at
-- most, and where there is one it is returned (`first-returns`). It returns none exactly if no strategy at all wins over the rows
-- (`first_none`, `none_if_no_strategy`).
-- Assumes nothing.
use Prim.Native.Nat.{ℕ}
use mathlib.Core.Path.{◌≡◌, refl, sym, ap, ap₂, ◌∙◌}
use mathlib.Core.Bool.{Bool, true, false, ◌&&◌}
use mathlib.Core.List.{List, [], ◌∷◌}
use mathlib.Core.Option.{Option, none, some}
use mathlib.Core.Logic.{inl, inr}
use lib.ListN.{length, length-map}
use Rattle.expansion.specs.Play.{Row, Strategy, play, restriction}
use Rattle.expansion.specs.Copies.{copies}
use Rattle.expansion.specs.Model.{wins, strategy_of, is_model, first_model}
use Rattle.expansion.specs.Order.{IsFirst}
use Rattle.expansion.proofs.Booleans.{never_both}
use Rattle.expansion.proofs.Membership.{In}
use Rattle.expansion.proofs.Walk.{walk_first, walk_none}
use Rattle.expansion.proofs.CopyLaws.{Own, in_copies, values_at, value_of_values, play_agree}

-- A strategy as values of the copies over the rows, by number.
abbrev pub values_of : List Bool → List Row → Strategy → List Bool
values_of ts rows σ = values_at (copies ts rows) σ

-- Over each of the rows it is played as the strategy is.
pub play_of_values : (ts : List Bool) (rows : List Row) (σ : Strategy) (row : Row) → In row rows
    → play ts (strategy_of ts rows (values_of ts rows σ)) row ≡ play ts σ row
play_of_values ts rows σ row h =
    let agree : (k : ℕ) → Own ts k → strategy_of ts rows (values_of ts rows σ) k (restriction ts k row) ≡ σ k (restriction ts k row) =
    λ k o. value_of_values (copies ts rows) σ k (restriction ts k row) (in_copies ts rows row k h o) in
    play_agree ts (strategy_of ts rows (values_of ts rows σ)) σ row agree

pub wins_agree : (ts : List Bool) (psi : List Bool → Bool) (σ τ : Strategy) (rows : List Row)
    → ((row : Row) → In row rows → play ts σ row ≡ play ts τ row) → wins ts psi σ rows ≡ wins ts psi τ rows
wins_agree ts psi σ τ [] h = refl
wins_agree ts psi σ τ (row ∷ rows) h = ap₂ ◌&&◌ (ap psi (h row (inl refl))) (wins_agree ts psi σ τ rows (λ other l. h other (inr l)))

-- So a strategy wins exactly if its values are a model.
pub is_model_of_values : (ts : List Bool) (psi : List Bool → Bool) (rows : List Row) (σ : Strategy)
    → is_model ts psi rows (values_of ts rows σ) ≡ wins ts psi σ rows
unfolding is_model
is_model_of_values ts psi rows σ = wins_agree ts psi (strategy_of ts rows (values_of ts rows σ)) σ rows (λ row h. play_of_values ts rows σ row h)

module _ (prefer : ℕ → Bool) (ts : List Bool) (psi : List Bool → Bool) (rows : List Row) where
  -- The first model, if there is one, is returned, and nothing else is.
  pub first_is_first : (vs : List Bool) → first_model prefer ts psi rows ≡ some vs
      → IsFirst prefer (length (copies ts rows)) (is_model ts psi rows) vs
  unfolding first_model
  first_is_first vs e = walk_first (length (copies ts rows)) prefer (is_model ts psi rows) vs e

  -- Its values, read as a strategy, win.
  pub first_some : (vs : List Bool) → first_model prefer ts psi rows ≡ some vs → wins ts psi (strategy_of ts rows vs) rows ≡ true
  unfolding is_model
  first_some vs e = (first_is_first vs e).passes

  -- None is returned only if no strategy at all wins, and always then.
  pub first_none : first_model prefer ts psi rows ≡ none → (σ : Strategy) → wins ts psi σ rows ≡ false
  unfolding first_model
  first_none e σ =
      let values = values_of ts rows σ in
      let fails = walk_none (length (copies ts rows)) prefer (is_model ts psi rows) e values (length-map (copies ts rows) _) in
      sym (is_model_of_values ts psi rows σ) ∙ fails

  pub none_if_no_strategy : ((σ : Strategy) → wins ts psi σ rows ≡ false) → first_model prefer ts psi rows ≡ none
  none_if_no_strategy loses = go (first_model prefer ts psi rows) refl
    where
      go : (o : Option (List Bool)) → first_model prefer ts psi rows ≡ o → first_model prefer ts psi rows ≡ none
      go none e = e
      go (some vs) e = absurd (never_both (first_some vs e) (loses (strategy_of ts rows vs)))
