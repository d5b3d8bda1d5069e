-- What holds of replies: of one, and of a game in which they are followed. Assumes nothing.
use Rattle.std.specs.Prelude.{ℕ, ◌<◌, ◌≡◌, Bool, true, false, List, [], ◌∷◌, ◌++◌, ◌⊎◌, ℤ, length, get_or, take, Ok}
use Rattle.formula.specs.Formula.{clauses}
use Rattle.formula.specs.Meaning.{matrix, verdict}
use Rattle.judge.specs.Judge.{claims_true, borne_out}
use Rattle.case_rules.specs.Restricted.{restricted, kinds_behind}
use Rattle.restriction.specs.Outcome.{values_of}
use Rattle.reply.specs.declared.Next.TheVariants.{Value, OthersTurn, NotBorneOut}
use Rattle.reply.specs.Next.{next}

-- Each move was the other side's, or the reply to the moves before it.
abbrev pub Followed : List ℕ → List ℤ → ℕ → List ℕ → ℕ → List ℕ → Type 0
Followed kinds literals claim rows count moves =
    (d : ℕ) → d < length moves
    → (next kinds literals claim rows count (take d moves) ≡ Ok OthersTurn) ⊎
    (next kinds literals claim rows count (take d moves) ≡ Ok (Value (get_or (values_of moves) d false)))

pub record NextRight (kinds : List ℕ) (literals : List ℤ) (claim : ℕ) (rows : List ℕ) (count : ℕ) : Type 0 where
  -- Whatever the moves were: the formula with them and the reply set has the claim for its verdict.
  pub kept :
      (moves : List ℕ) (v : Bool) → next kinds literals claim rows count moves ≡ Ok (Value v)
      → verdict (kinds_behind (values_of moves ++ (v ∷ [])) kinds) (restricted (values_of moves ++ (v ∷ [])) literals) ≡ claims_true claim
  -- If the judge accepts the rows for the whole formula: where the replies were followed there is always one ..
  pub never_without :
      borne_out kinds literals claim rows count ≡ true → (moves : List ℕ) → Followed kinds literals claim rows count moves
      → next kinds literals claim rows count moves ≡ Ok NotBorneOut → ⊥
  -- .. and at the end, whatever the other side chose, the formula's matrix has the claim's value.
  pub won :
      borne_out kinds literals claim rows count ≡ true → (moves : List ℕ) → length moves ≡ length kinds → Followed kinds literals claim rows count moves
      → matrix (clauses literals) (values_of moves) ≡ claims_true claim
