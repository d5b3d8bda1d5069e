-- What holds of rows of cases, of a casebook, and of the decision with one, for every formula. Assumes nothing.
use Rattle.std.specs.Prelude.{ℕ, ◌≤◌, ◌≡◌, Bool, true, false, List, ◌∷◌, ◌++◌, ℤ, length}
use Rattle.std.proofs.Math.Option.{none}
use Rattle.formula.specs.Formula.{Kind, prefix, clauses}
use Rattle.formula.specs.Meaning.{matrix, after, verdict}
use Rattle.expansion.specs.Side.{own}
use Rattle.expansion.specs.Play.{Row}
use Rattle.expansion.specs.Model.{search}
use Rattle.expansion.specs.Judge.{accepted}
use Rattle.case_rules.specs.Restricted.{IsAccepted}
use Rattle.case_rules.specs.Casebook.{Casebook, offered, holds, with_value, together, gathered, rows_in}
use Rattle.case_rules.specs.Evidence.{Finding, RightFinding, shown}

-- Rows of the cases of an unknown in front, for the side that searches, with any preferences.
pub record RowsRight (side k : Kind) (ks : List Kind) (phi : List Bool → Bool) : Type 0 where
  -- The unknown is the searching side's: the rows of both cases.
  pub both_cases :
      (prefer at_true at_false : ℕ → Bool) (rows others : List Row) → own side k ≡ true
      → search at_true side ks (after true phi) rows ≡ none → search at_false side ks (after false phi) others ≡ none
      → search prefer side (k ∷ ks) phi (rows ++ others) ≡ none
  -- The unknown is the rows': those of one case, with its value in front.
  pub one_case :
      (prefer at_value : ℕ → Bool) (v : Bool) (rows : List Row) → own side k ≡ false
      → search at_value side ks (after v phi) rows ≡ none → search prefer side (k ∷ ks) phi (with_value v rows) ≡ none

-- The same as the judge has it.
pub record JudgedRight (claim : Bool) (k : Kind) (ks : List Kind) (phi : List Bool → Bool) : Type 0 where
  pub both_cases :
      (rows others : List Row) → accepted claim ks (after true phi) rows ≡ true → accepted claim ks (after false phi) others ≡ true
      → accepted claim (k ∷ ks) phi (together (offered claim k) rows others) ≡ true
  pub one_case :
      (v : Bool) (rows : List Row) → offered claim k ≡ true → accepted claim ks (after v phi) rows ≡ true
      → accepted claim (k ∷ ks) phi (with_value v rows) ≡ true

-- A casebook that holds for a claim: the claim is the verdict, and its rows put together, no more than those at its ends, are accepted for it.
pub record CasebookRight (claim : Bool) (kinds : List ℕ) (literals : List ℤ) (book : Casebook) : Type 0 where
  pub right : holds claim kinds literals book ≡ true → verdict kinds literals ≡ claim
  pub witness :
      holds claim kinds literals book ≡ true → accepted claim (prefix kinds) (matrix (clauses literals)) (gathered claim kinds book) ≡ true
  pub few : length (gathered claim kinds book) ≤ rows_in book

-- The decision with a casebook, by any finding that the judge accepts: the casebook holds for the claim. So the claim is the verdict.
abbrev pub EvidenceRight : Finding → List ℕ → List ℤ → Type 0
EvidenceRight find kinds literals =
    RightFinding find → IsAccepted kinds literals
    → holds (shown find kinds literals).claim kinds literals (shown find kinds literals).book ≡ true

-- Every accepted formula has a casebook for its verdict.
abbrev pub HasCasebook : List ℕ → List ℤ → Type 0
HasCasebook kinds literals = IsAccepted kinds literals → (book : Casebook) × (holds (verdict kinds literals) kinds literals book ≡ true)
