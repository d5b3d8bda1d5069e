-- The verdict of a search that finds nothing: if a side has no model over some rows of the other side, it does not reach what it wants. So no
-- model over universal rows makes the formula false, and no model over existential rows makes it true.
-- Assumes nothing.
use Prim.Native.Nat.{ℕ}
use mathlib.Core.Path.{◌≡◌, refl, ap}
use mathlib.Core.Bool.{Bool, false}
use mathlib.Core.List.{List}
use mathlib.Core.Option.{Option, none, some, some-ne-none}
use mathlib.Core.Logic.{◌↔◌}
use Rattle.formula.specs.Formula.{Kind}
use Rattle.expansion.specs.Side.{flags, goal}
use Rattle.expansion.specs.Play.{Row, Strategy}
use Rattle.expansion.specs.Model.{wins, first_model, yields, yielded, search}
use Rattle.expansion.proofs.FirstModel.{first_none, none_if_no_strategy}
use Rattle.expansion.proofs.Game.{reaches}
use Rattle.expansion.proofs.Soundness.{no_strategy_no_meaning}

pub yielded_none : (ts : List Bool) (rows : List Row) (o : Option (List Bool)) → yielded ts rows o ≡ none → o ≡ none
yielded_none ts rows none e = refl
yielded_none ts rows (some vs) e = absurd (some-ne-none (yields ts rows vs) e)

module _ (prefer : ℕ → Bool) (side : Kind) (ks : List Kind) (phi : List Bool → Bool) (rows : List Row) where
  -- A search gives none exactly if no strategy of the side wins over the rows.
  pub search_none : (search prefer side ks phi rows ≡ none) ↔ ((σ : Strategy) → wins (flags side ks) (goal side phi) σ rows ≡ false)
  unfolding search
  search_none =
      let first = first_model prefer (flags side ks) (goal side phi) rows in (
        λ e. first_none prefer (flags side ks) (goal side phi) rows (yielded_none (flags side ks) rows first e),
        λ loses. ap (yielded (flags side ks) rows) (none_if_no_strategy prefer (flags side ks) (goal side phi) rows loses),
      )

  pub none_is_verdict : search prefer side ks phi rows ≡ none → reaches side ks phi ≡ false
  none_is_verdict e = no_strategy_no_meaning side ks phi rows (search_none.0 e)
