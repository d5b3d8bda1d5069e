-- The number and the page of a summary. Assumes nothing.
use Prim.Native.Nat.{ℕ}
use Rattle.std.specs.Prelude.{Ok, Result}
use Rattle.cause.specs.declared.Cause.{Cause}
use Rattle.cause.specs.declared.Cause.TheVariants.{Studies, Answer, Fee}
use Rattle.cause.specs.Cause.{refused_if}
use mathlib.Core.Path.{◌≡◌, refl, ap, ◌∙◌}
use mathlib.Core.Bool.{Bool, true, false, cond}
use mathlib.Core.List.{List, []}
use lib.Dec.{eqb, ltb}
use lib.ListN.{length}
use Rattle.formula.specs.Causes.{any}
use Rattle.season.specs.declared.Study.{Study}
use Rattle.season.specs.declared.Sheet.{Sheet}
use Rattle.season.specs.Season.{sheet, max_studies, max_answer, max_fee, summary, summary_number, summary_sheet, cause, Summarized}

-- The three causes in turn.
module _ (page : Sheet) where
  abbrev by_causes : Bool → Bool → Bool → Result Sheet Cause
  by_causes many answer fee = refused_if many Studies (refused_if answer Answer (refused_if fee Fee (Ok page)))

  abbrev first_of : Bool → Bool → Bool → ℕ
  first_of many answer fee = cond many 23 (cond answer 24 (cond fee 25 0))

  number_so : (many answer fee : Bool) → summary_number (by_causes many answer fee) ≡ first_of many answer fee
  number_so true answer fee = refl
  number_so false true fee = refl
  number_so false false true = refl
  number_so false false false = refl

  sheet_so : (many answer fee : Bool) → summary_sheet (by_causes many answer fee) ≡ cond (eqb (first_of many answer fee) 0) page (sheet [])
  sheet_so true answer fee = refl
  sheet_so false true fee = refl
  sheet_so false false true = refl
  sheet_so false false false = refl

pub summarized : (ss : List Study) (r : Result Sheet Cause) → r ≡ summary ss → Summarized ss r
unfolding summary cause
summarized ss r same =
    let many = ltb max_studies (length ss) in
    let answer = any (λ s. ltb max_answer s.answer) ss in
    let fee = any (λ s. ltb max_fee s.fee) ss in
    record {
      value = same;
      numbered = ap summary_number same ∙ number_so (sheet ss) many answer fee;
      valued = ap summary_sheet same ∙ sheet_so (sheet ss) many answer fee;
    }
