-- What holds of the decision by cases, for any study that is right where it answers. Assumes nothing.
use Rattle.std.specs.Prelude.{ℕ, ◌≤◌, ◌≡◌, Bool, true, false, List, [], ◌∷◌, ℤ, length}
use Rattle.std.proofs.Math.Option.{some}
use Rattle.formula.specs.Formula.{kind_of}
use Rattle.formula.specs.Causes.{any}
use Rattle.formula.specs.Meaning.{verdict}
use Rattle.case_rules.specs.Restricted.{IsAccepted, restricted}
use Rattle.case_rules.specs.ByCases.{by_kind, names_first, Study, RightStudy, EndsStudy, decided, tried}
use Rattle.case_rules.specs.Budget.{asked_about, most_studies}

-- The two cases of the first unknown are formulas of one unknown less, and their verdicts give the formula's.
abbrev pub ByFirst : ℕ → List ℕ → List ℤ → Type 0
ByFirst k kinds literals =
    verdict (k ∷ kinds) literals
    ≡ by_kind (kind_of k) (verdict kinds (restricted (true ∷ []) literals)) (verdict kinds (restricted (false ∷ []) literals))

-- Where no clause names the first unknown, one case of it is enough, whichever value it has.
abbrev pub PassedOver : ℕ → List ℕ → List ℤ → Type 0
PassedOver k kinds literals =
    any names_first literals ≡ false → (v : Bool) → verdict (k ∷ kinds) literals ≡ verdict kinds (restricted (v ∷ []) literals)

pub record ByCasesRight (study : Study) (kinds : List ℕ) (literals : List ℤ) : Type 0 where
  -- The decision of an accepted formula is its verdict.
  pub always : RightStudy study → IsAccepted kinds literals → decided study kinds literals ≡ verdict kinds literals
  -- Within a depth: what is answered is right ..
  pub within :
      RightStudy study → IsAccepted kinds literals → (depth : ℕ) (v : Bool) → tried study depth kinds literals ≡ some v → verdict kinds literals ≡ v
  -- .. and there is an answer if the depth is the prefix's and the study answers where no unknown is left.
  pub at_depth :
      RightStudy study → EndsStudy study → IsAccepted kinds literals → (depth : ℕ) → length kinds ≤ depth
      → tried study depth kinds literals ≡ some (verdict kinds literals)
  -- With a bound on the studies: what is answered is right, and no more studies are left than there were.
  pub bounded :
      RightStudy study → IsAccepted kinds literals → (budget : ℕ) (v : Bool) → (asked_about study budget kinds literals).answer ≡ some v
      → verdict kinds literals ≡ v
  pub kept : (budget : ℕ) → (asked_about study budget kinds literals).left ≤ budget
  -- With as many studies as there can be, there is an answer if the study answers where no unknown is left.
  pub with_enough :
      RightStudy study → EndsStudy study → IsAccepted kinds literals → (budget : ℕ) → most_studies (length kinds) ≤ budget
      → (asked_about study budget kinds literals).answer ≡ some (verdict kinds literals)
