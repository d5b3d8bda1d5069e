-- Whether a search finds a model does not depend on the preferences.
-- Assumes nothing.
use Prim.Native.Nat.{ℕ}
use mathlib.Core.Path.{◌≡◌, refl, sym, ap}
use mathlib.Core.Bool.{Bool}
use mathlib.Core.List.{List}
use mathlib.Core.Option.{Option, none, some}
use Rattle.formula.specs.Formula.{Kind}
use Rattle.expansion.specs.Play.{Row}
use Rattle.expansion.specs.Model.{search}
use Rattle.expansion.specs.Judge.{is_none}
use Rattle.expansion.proofs.Verdict.{search_none}

-- Two answers that are none together say the same.
is_none_together : (a b : Option (List Row)) → (a ≡ none → b ≡ none) → (b ≡ none → a ≡ none) → is_none a ≡ is_none b
is_none_together none b to from = sym (ap is_none (to refl))
is_none_together (some x) none to from = ap is_none (from refl)
is_none_together (some x) (some y) to from = refl

pub is_none_any_preferences : (p q : ℕ → Bool) (side : Kind) (ks : List Kind) (phi : List Bool → Bool) (rows : List Row)
    → is_none (search p side ks phi rows) ≡ is_none (search q side ks phi rows)
is_none_any_preferences p q side ks phi rows =
    let by_p = search_none p side ks phi rows in
    let by_q = search_none q side ks phi rows in
    is_none_together (search p side ks phi rows) (search q side ks phi rows) (λ e. by_q.1 (by_p.0 e)) (λ e. by_p.1 (by_q.0 e))
