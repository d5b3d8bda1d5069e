-- What holds of replies from rows, for either claim. Assumes nothing.
use Rattle.std.specs.Prelude.{ℕ, ◌≤◌, ◌≡◌, Bool, true, List, [], ◌∷◌, ◌++◌, ℤ, length}
use Rattle.std.proofs.Math.Option.{some}
use Rattle.formula.specs.Formula.{prefix, clauses}
use Rattle.formula.specs.Meaning.{matrix, verdict}
use Rattle.expansion.specs.Play.{Row}
use Rattle.expansion.specs.Judge.{accepted}
use Rattle.case_rules.specs.Restricted.{restricted, kinds_behind}
use Rattle.reply_rules.specs.Position.{fitting, borne_out, turn, winners, reply_value, Follows}

-- The judge accepts the rows for the whole formula.
abbrev pub Judged : Bool → List ℕ → List ℤ → List Row → Type 0
Judged claim kinds literals rows = accepted claim (prefix kinds) (matrix (clauses literals)) rows ≡ true

pub record GameRight (claim : Bool) (kinds : List ℕ) (literals : List ℤ) (rows : List Row) : Type 0 where
  -- Whatever the moves were: the formula with them and the reply set has the claim for its verdict.
  pub kept :
      (vs : List Bool) (v : Bool) → reply_value claim kinds literals rows vs ≡ some v
      → verdict (kinds_behind (vs ++ (v ∷ [])) kinds) (restricted (vs ++ (v ∷ [])) literals) ≡ claim
  -- In a position that is borne out there is a reply where it is the winner's turn ..
  pub found :
      (vs : List Bool) → turn claim kinds vs ≡ winners → borne_out claim kinds literals rows vs ≡ true
      → (v : Bool) × (reply_value claim kinds literals rows vs ≡ some v)
  -- .. and moves that follow the replies lead only to such positions, if the judge accepts the rows for the whole formula.
  pub stays :
      Judged claim kinds literals rows → (vs : List Bool) → length vs ≤ length kinds → Follows claim kinds literals rows vs
      → borne_out claim kinds literals rows vs ≡ true
  -- So at the end, whatever the other side chose, the formula's matrix has the claim's value.
  pub won :
      Judged claim kinds literals rows → (vs : List Bool) → length vs ≡ length kinds → Follows claim kinds literals rows vs
      → matrix (clauses literals) vs ≡ claim
  -- The rows never grow.
  pub few : (vs : List Bool) → length (fitting claim (prefix kinds) vs rows) ≤ length rows
