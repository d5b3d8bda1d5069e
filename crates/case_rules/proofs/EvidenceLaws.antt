-- The evidence on a formula has a casebook that holds for its claim: so every accepted formula has one. Assumes nothing.
use Prim.Native.Nat.{ℕ, zero, suc}
use mathlib.Core.Path.{◌≡◌, refl, ap, ◌∙◌}
use mathlib.Core.Bool.{Bool, true, false, not, ◌&&◌, and-eq-true_iff}
use mathlib.Core.List.{List, [], ◌∷◌, ◌++◌}
use mathlib.Core.Option.{Option, none, some, none-ne-some}
use lib.IntN.{ℤ}
use lib.ListN.{length}
use Rattle.formula.specs.Formula.{kind_of, prefix, clauses}
use Rattle.formula.specs.Meaning.{matrix, verdict}
use Rattle.formula.proofs.Accepted.{Accepted, accepted as accepted_by_places, accepting}
use Rattle.expansion.specs.Side.{goal}
use Rattle.expansion.specs.OtherSide.{side_of}
use Rattle.expansion.specs.Judge.{accepted}
use Rattle.expansion.proofs.Judged.{accepted_exactly}
use Rattle.case_rules.specs.Restricted.{IsAccepted, restricted}
use Rattle.case_rules.specs.Casebook.{Casebook, end, holds_behind, holds, gathered}
use Rattle.case_rules.specs.Evidence.{Found, Finding, RightFinding, Evidence, evidence, by_claims, joined, or_by_cases, shown_behind, shown}
use Rattle.case_rules.proofs.AcceptedLaws.{behind_accepted}
use Rattle.case_rules.proofs.CasebookLaws.{casebook_verdict, gathered_accepted}
use Rattle.case_rules.proofs.ByCasesLaws.{moved, one_longer}

-- Without unknowns, one empty row shows the matrix's value.
end_lost : (claim : Bool) (phi : List Bool → Bool) → phi [] ≡ claim → goal (side_of claim) phi [] && true ≡ false
end_lost true phi e = ap (λ (b : Bool). not b && true) e
end_lost false phi e = ap (λ (b : Bool). b && true) e

end_accepted : (phi : List Bool → Bool) → accepted (phi []) [] phi ([] ∷ []) ≡ true
end_accepted phi = (accepted_exactly (phi []) [] phi ([] ∷ [])).1 (λ σ. end_lost (phi []) phi refl)

module _ (find : Finding) (right : RightFinding find) (literals : List ℤ) where
  abbrev Holds : List Bool → List ℕ → Evidence → Type 0
  Holds path kinds r = holds_behind r.claim literals path kinds r.book ≡ true

  joined_holds : (path : List Bool) (k : ℕ) (kinds : List ℕ) (c d : Bool) (a b : Casebook)
      → holds_behind c literals (path ++ (true ∷ [])) kinds a ≡ true → holds_behind d literals (path ++ (false ∷ [])) kinds b ≡ true
      → Holds path (k ∷ kinds) (by_claims (kind_of k) c d a b)
  joined_holds path zero kinds true d a b h g = h
  joined_holds path zero kinds false true a b h g = g
  joined_holds path zero kinds false false a b h g =
      (and-eq-true_iff (holds_behind false literals (path ++ (true ∷ [])) kinds a) (holds_behind false literals (path ++ (false ∷ [])) kinds b)).1 (h, g)
  joined_holds path (suc k) kinds false d a b h g = h
  joined_holds path (suc k) kinds true false a b h g = g
  joined_holds path (suc k) kinds true true a b h g =
      (and-eq-true_iff (holds_behind true literals (path ++ (true ∷ [])) kinds a) (holds_behind true literals (path ++ (false ∷ [])) kinds b)).1 (h, g)

  found_or : (front : List ℕ) (path : List Bool) (kinds : List ℕ) → length front ≡ length path → Accepted (front ++ kinds) literals → (by_cases : Evidence)
      → Holds path kinds by_cases
      → (o : Option Found) → find path kinds (restricted path literals) ≡ o → Holds path kinds (or_by_cases o by_cases)
  found_or front path kinds l a by_cases h none e = h
  found_or front path kinds l a by_cases h (some f) e =
      right path kinds (restricted path literals) f (accepting kinds (restricted path literals) (behind_accepted front kinds path literals l a)) e

  shown_holds_behind : (front : List ℕ) (path : List Bool) (kinds : List ℕ) → length front ≡ length path → Accepted (front ++ kinds) literals
      → Holds path kinds (shown_behind find literals path kinds)
  shown_holds_behind front path [] l a =
      let phi = matrix (clauses (restricted path literals)) in
      found_or front path [] l a (evidence (phi []) (end ([] ∷ []))) (end_accepted phi)
      (find path [] (restricted path literals)) refl
  shown_holds_behind front path (k ∷ kinds) l a =
      let case : (v : Bool) → Holds (path ++ (v ∷ [])) kinds (shown_behind find literals (path ++ (v ∷ [])) kinds) =
      λ v. shown_holds_behind (front ++ (k ∷ [])) (path ++ (v ∷ [])) kinds (one_longer front k path v l) (moved front k kinds literals a) in
      found_or front path (k ∷ kinds) l a
      (joined (kind_of k) (shown_behind find literals (path ++ (true ∷ [])) kinds) (shown_behind find literals (path ++ (false ∷ [])) kinds))
      (joined_holds path k kinds _ _ _ _ (case true) (case false))
      (find path (k ∷ kinds) (restricted path literals)) refl

module _ (find : Finding) (right : RightFinding find) (kinds : List ℕ) (literals : List ℤ) (a : IsAccepted kinds literals) where
  -- The evidence's casebook holds for its claim ..
  pub shown_holds : holds (shown find kinds literals).claim kinds literals (shown find kinds literals).book ≡ true
  unfolding holds shown
  shown_holds = shown_holds_behind find right literals [] [] kinds refl (accepted_by_places kinds literals a)

  -- .. so its claim is the verdict ..
  pub shown_verdict : verdict kinds literals ≡ (shown find kinds literals).claim
  shown_verdict = casebook_verdict (shown find kinds literals).claim kinds literals (shown find kinds literals).book shown_holds

  -- .. and its rows put together are a witness for it.
  pub shown_witness :
      accepted (shown find kinds literals).claim (prefix kinds) (matrix (clauses literals))
      (gathered (shown find kinds literals).claim kinds (shown find kinds literals).book)
      ≡ true
  shown_witness = gathered_accepted (shown find kinds literals).claim kinds literals (shown find kinds literals).book shown_holds

-- Every accepted formula has a casebook for its verdict.
pub casebook_exists : (kinds : List ℕ) (literals : List ℤ) → IsAccepted kinds literals
    → (book : Casebook) × (holds (verdict kinds literals) kinds literals book ≡ true)
casebook_exists kinds literals a =
    let never : Finding = λ path kinds literals. none in
    let right : RightFinding never = λ path kinds literals f a e. absurd (none-ne-some f e) in
    let r = shown never kinds literals in
    let as_claimed = ap (λ (claim : Bool). holds claim kinds literals r.book) (shown_verdict never right kinds literals a) in
    (r.book, as_claimed ∙ shown_holds never right kinds literals a)
