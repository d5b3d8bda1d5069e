-- The numbers with which a reader refuses, over what it returns, whatever is lent. Assumes nothing.
use Rattle.std.specs.Prelude.{ℕ, ◌≡◌, List, Err}
use Rattle.named.specs.Names.{In}
use Rattle.cause.specs.Cause.{number}
use Rattle.text.specs.declared.Refusal.{Refusal}
use Rattle.text.specs.Reading.{Reading, number_of}

pub record CausesRight (causes : List ℕ) (r : Reading) : Type 0 where
  -- A refusal has one of these numbers ..
  pub one_of : (refusal : Refusal) → r ≡ Err refusal → In (number refusal.cause) causes
  -- .. and 'number 13 is then never returned'.
  pub never_13 : number_of r ≡ 13 → ⊥
