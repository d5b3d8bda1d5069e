-- A casebook that holds for a claim proves it, and its rows put together are accepted for the whole formula. Assumes nothing.
use Prim.Native.Nat.{ℕ, ◌+◌, ◌≤◌}
use native.Mathlib.Omega.{arith}
use mathlib.Core.Path.{◌≡◌, refl, sym, ap, ap₂, ◌∙◌}
use mathlib.Core.Bool.{Bool, true, false, ◌&&◌, ◌||◌, false≢true, or-true, and-false, and-eq-true_iff}
use mathlib.Core.List.{List, [], ◌∷◌, ◌++◌}
use lib.IntN.{ℤ}
use lib.ListN.{length, length-append, length-map}
use Rattle.formula.specs.Formula.{Kind, existential, universal, kind_of, prefix, clauses}
use Rattle.formula.specs.Meaning.{matrix, after, meaning, verdict}
use Rattle.expansion.specs.Play.{Row}
use Rattle.expansion.specs.Judge.{accepted}
use Rattle.expansion.proofs.Judged.{accepted_verdict}
use Rattle.rounds.specs.Opening.{set_to}
use Rattle.case_rules.specs.Restricted.{restricted}
use Rattle.case_rules.specs.ByCases.{by_kind}
use Rattle.case_rules.specs.Casebook.{Casebook, end, one, both, offered, holds_behind, holds, with_value, together, gathered, rows_in}
use Rattle.case_rules.proofs.RestrictedLaws.{restricted_matrix, set_one_more, meaning_by_next}
use Rattle.case_rules.proofs.RowLaws.{accepted_one, accepted_together}

-- ---- the claim is the verdict, by the meaning of the cases

-- One case is enough for an unknown of the rows' side.
one_enough : (claim v : Bool) (k : Kind) (f : Bool → Bool) → offered claim k ≡ true → f v ≡ claim → by_kind k (f true) (f false) ≡ claim
one_enough true true existential f o e = ap (λ (a : Bool). a || f false) e
one_enough true false existential f o e = ap (λ (b : Bool). f true || b) e ∙ or-true (f true)
one_enough true v universal f o e = absurd (false≢true o)
one_enough false v existential f o e = absurd (false≢true o)
one_enough false true universal f o e = ap (λ (a : Bool). a && f false) e
one_enough false false universal f o e = ap (λ (b : Bool). f true && b) e ∙ and-false (f true)

both_enough : (claim : Bool) (k : Kind) → by_kind k claim claim ≡ claim
both_enough true existential = refl
both_enough true universal = refl
both_enough false existential = refl
both_enough false universal = refl

module _ (claim : Bool) (literals : List ℤ) where
  abbrev phi : List Bool → Bool
  phi = matrix (clauses literals)

  holds_meaning : (path : List Bool) (kinds : List ℕ) (book : Casebook) → holds_behind claim literals path kinds book ≡ true
      → meaning (prefix kinds) (set_to path phi) ≡ claim
  holds_meaning path kinds (end rows) h =
      sym (ap (meaning (prefix kinds)) (restricted_matrix path literals))
      ∙ accepted_verdict claim (prefix kinds) (matrix (clauses (restricted path literals))) rows h
  holds_meaning path [] (one v book) h = absurd (false≢true h)
  holds_meaning path (k ∷ kinds) (one v book) h =
      let parts = (and-eq-true_iff (offered claim (kind_of k)) (holds_behind claim literals (path ++ (v ∷ [])) kinds book)).0 h in
      meaning_by_next path (kind_of k) (prefix kinds) phi
      ∙ one_enough claim v (kind_of k) (λ b. meaning (prefix kinds) (set_to (path ++ (b ∷ [])) phi)) parts.0
      (holds_meaning (path ++ (v ∷ [])) kinds book parts.1)
  holds_meaning path [] (both a b) h = absurd (false≢true h)
  holds_meaning path (k ∷ kinds) (both a b) h =
      let in_case : Bool → Casebook → Bool = λ v book. holds_behind claim literals (path ++ (v ∷ [])) kinds book in
      let parts = (and-eq-true_iff (in_case true a) (in_case false b)).0 h in
      meaning_by_next path (kind_of k) (prefix kinds) phi
      ∙ ap₂ (by_kind (kind_of k)) (holds_meaning (path ++ (true ∷ [])) kinds a parts.0) (holds_meaning (path ++ (false ∷ [])) kinds b parts.1)
      ∙ both_enough claim (kind_of k)

  -- ---- its rows put together

  -- A case's rows, judged where the path has one value more, are judged behind that value.
  judged_behind : (path : List Bool) (v : Bool) (ks : List Kind) (rows : List Row) → accepted claim ks (set_to (path ++ (v ∷ [])) phi) rows ≡ true
      → accepted claim ks (after v (set_to path phi)) rows ≡ true
  judged_behind path v ks rows e = ap (λ (psi : List Bool → Bool). accepted claim ks psi rows) (set_one_more path v phi) ∙ e

  gathered_behind : (path : List Bool) (kinds : List ℕ) (book : Casebook) → holds_behind claim literals path kinds book ≡ true
      → accepted claim (prefix kinds) (set_to path phi) (gathered claim kinds book) ≡ true
  gathered_behind path kinds (end rows) h = sym (ap (λ (psi : List Bool → Bool). accepted claim (prefix kinds) psi rows) (restricted_matrix path literals)) ∙ h
  gathered_behind path [] (one v book) h = absurd (false≢true h)
  gathered_behind path (k ∷ kinds) (one v book) h =
      let parts = (and-eq-true_iff (offered claim (kind_of k)) (holds_behind claim literals (path ++ (v ∷ [])) kinds book)).0 h in
      accepted_one claim (kind_of k) v (prefix kinds) (set_to path phi) (gathered claim kinds book) parts.0
      (judged_behind path v (prefix kinds) (gathered claim kinds book) (gathered_behind (path ++ (v ∷ [])) kinds book parts.1))
  gathered_behind path [] (both a b) h = absurd (false≢true h)
  gathered_behind path (k ∷ kinds) (both a b) h =
      let in_case : Bool → Casebook → Bool = λ v book. holds_behind claim literals (path ++ (v ∷ [])) kinds book in
      let parts = (and-eq-true_iff (in_case true a) (in_case false b)).0 h in
      accepted_together claim (kind_of k) (prefix kinds) (set_to path phi) (gathered claim kinds a) (gathered claim kinds b)
      (judged_behind path true (prefix kinds) (gathered claim kinds a) (gathered_behind (path ++ (true ∷ [])) kinds a parts.0))
      (judged_behind path false (prefix kinds) (gathered claim kinds b) (gathered_behind (path ++ (false ∷ [])) kinds b parts.1))

-- A casebook that holds for a claim: the claim is the verdict.
pub casebook_verdict : (claim : Bool) (kinds : List ℕ) (literals : List ℤ) (book : Casebook) → holds claim kinds literals book ≡ true
    → verdict kinds literals ≡ claim
unfolding holds verdict
casebook_verdict claim kinds literals book h = holds_meaning claim literals [] kinds book h

-- And its rows put together are accepted for that claim, over the formula as it is lent.
pub gathered_accepted : (claim : Bool) (kinds : List ℕ) (literals : List ℤ) (book : Casebook) → holds claim kinds literals book ≡ true
    → accepted claim (prefix kinds) (matrix (clauses literals)) (gathered claim kinds book) ≡ true
unfolding holds
gathered_accepted claim kinds literals book h = gathered_behind claim literals [] kinds book h

-- ---- how many they are

length_together : (b : Bool) (rows others : List Row) → length (together b rows others) ≡ length rows + length others
length_together true rows others =
    length-append (with_value true rows) (with_value false others) ∙ ap₂ ◌+◌ (length-map rows (λ r. true ∷ r)) (length-map others (λ r. false ∷ r))
length_together false rows others = length-append rows others

-- No more than the rows at its ends.
pub gathered_few : (claim : Bool) (kinds : List ℕ) (book : Casebook) → length (gathered claim kinds book) ≤ rows_in book
gathered_few claim kinds (end rows) = omega arith
gathered_few claim [] (one v book) = omega arith
gathered_few claim (k ∷ kinds) (one v book) = omega (arith, length-map (gathered claim kinds book) (λ (r : Row). v ∷ r), gathered_few claim kinds book)
gathered_few claim [] (both a b) = omega arith
gathered_few claim (k ∷ kinds) (both a b) =
    let all = length_together (offered claim (kind_of k)) (gathered claim kinds a) (gathered claim kinds b) in
    omega (arith, all, gathered_few claim kinds a, gathered_few claim kinds b)
