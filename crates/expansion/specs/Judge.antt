-- 01's 'The judge' (a checker of claims).
-- Assumes nothing.
use Rattle.std.specs.Prelude.{Bool, true, false, List}
use Rattle.std.proofs.Math.Option.{Option, none, some}
use Rattle.formula.specs.Formula.{Kind}
use Rattle.expansion.specs.OtherSide.{side_of}
use Rattle.expansion.specs.Play.{Row}
use Rattle.expansion.specs.Model.{search}

abbrev pub is_none : Option (List Row) → Bool
is_none none = true
is_none (some yielded) = false

-- 'Claim 0 takes universal rows, claim 1 existential rows. Accepted exactly if no model over those rows exists.' Claim 1 is true here, and
-- the universal side then looks for the model. Which model is the first plays no part, so any preferences serve.
unfoldable pub accepted : Bool → List Kind → (List Bool → Bool) → List Row → Bool
accepted claim ks phi rows = is_none (search (λ i. false) (side_of claim) ks phi rows)
