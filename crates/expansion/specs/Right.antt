-- What 01 says of a search and of the judge, as statements about the definitions, by the copies' values and the order of models.
-- Assumes nothing.
use Rattle.std.specs.Prelude.{ℕ, ◌≡◌, ◌↔◌, Bool, true, false, List, [], length}
use Rattle.std.proofs.Math.Option.{none, some}
use Rattle.formula.specs.Formula.{Kind}
use Rattle.formula.specs.Meaning.{meaning}
use Rattle.expansion.specs.Side.{flags, goal}
use Rattle.expansion.specs.OtherSide.{side_of}
use Rattle.expansion.specs.Play.{Row}
use Rattle.expansion.specs.Copies.{copies}
use Rattle.expansion.specs.Model.{is_model, yields, search}
use Rattle.expansion.specs.Order.{IsFirst}
use Rattle.expansion.specs.Judge.{accepted}

-- No values of the copies over the rows are a model of the side.
abbrev pub NoModel : Kind → List Kind → (List Bool → Bool) → List Row → Type 0
NoModel side ks phi rows = (vs : List Bool) → length vs ≡ length (copies (flags side ks) rows) → is_model (flags side ks) (goal side phi) rows vs ≡ false

-- 'The search returns the first model, or none if there is none.'
pub record SearchRight (prefer : ℕ → Bool) (side : Kind) (ks : List Kind) (phi : List Bool → Bool) (rows : List Row) : Type 0 where
  pub first : (new : List Row) → search prefer side ks phi rows ≡ some new
      → (vs : List Bool)
      × IsFirst prefer (length (copies (flags side ks) rows)) (is_model (flags side ks) (goal side phi) rows) vs
      × (new ≡ yields (flags side ks) rows vs)
  pub none_exactly : (search prefer side ks phi rows ≡ none) ↔ NoModel side ks phi rows

-- 'Accepted exactly if no model over those rows exists .. Zero rows are never accepted', and an accepted claim is the verdict.
pub record JudgeRight (claim : Bool) (ks : List Kind) (phi : List Bool → Bool) (rows : List Row) : Type 0 where
  pub exactly : (accepted claim ks phi rows ≡ true) ↔ NoModel (side_of claim) ks phi rows
  pub zero_rows : accepted claim ks phi [] ≡ false
  pub verdict : accepted claim ks phi rows ≡ true → meaning ks phi ≡ claim
