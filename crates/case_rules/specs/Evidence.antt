-- Deciding by cases with a casebook: a study that may find a claim with rows for it is asked first; where it finds none, the formula is decided by the
-- two cases of its first unknown. Assumes nothing.
use Rattle.std.specs.Prelude.{ℕ, ◌≡◌, Bool, true, false, List, [], ◌∷◌, ◌++◌, ℤ}
use Rattle.std.proofs.Math.Option.{Option, none, some}
use Rattle.formula.specs.Formula.{Kind, existential, universal, kind_of, prefix, clauses}
use Rattle.formula.specs.Meaning.{matrix}
use Rattle.expansion.specs.Play.{Row}
use Rattle.expansion.specs.Judge.{accepted}
use Rattle.case_rules.specs.Restricted.{IsAccepted, restricted}
use Rattle.case_rules.specs.Casebook.{Casebook, end, one, both}

-- A claim with rows for it.
pub record Found : Type 0 where
  pub claim : Bool
  pub rows : List Row

-- A search for these, given the values that are set, too.
abbrev pub Finding : Type 0
Finding = List Bool → List ℕ → List ℤ → Option Found

-- Where it finds something of an accepted formula, the judge accepts it.
abbrev pub RightFinding : Finding → Type 0
RightFinding find =
    (path : List Bool) (kinds : List ℕ) (literals : List ℤ) (f : Found) → IsAccepted kinds literals → find path kinds literals ≡ some f
    → accepted f.claim (prefix kinds) (matrix (clauses literals)) f.rows ≡ true

-- A claim with a casebook for it.
pub record Evidence : Type 0 where
  pub claim : Bool
  pub book : Casebook

abbrev pub evidence : Bool → Casebook → Evidence
evidence claim book = record { claim = claim; book = book }

-- From the claims and casebooks of both cases of an unknown, first where it is true. One case is used where it is enough.
abbrev pub by_claims : Kind → Bool → Bool → Casebook → Casebook → Evidence
by_claims existential true c a b = evidence true (one true a)
by_claims existential false true a b = evidence true (one false b)
by_claims existential false false a b = evidence false (both a b)
by_claims universal false c a b = evidence false (one true a)
by_claims universal true false a b = evidence false (one false b)
by_claims universal true true a b = evidence true (both a b)

abbrev pub joined : Kind → Evidence → Evidence → Evidence
joined k a b = by_claims k a.claim b.claim a.book b.book

abbrev pub or_by_cases : Option Found → Evidence → Evidence
or_by_cases none by_cases = by_cases
or_by_cases (some f) by_cases = evidence f.claim (end f.rows)

-- With no unknown left the matrix has its value, and one empty row shows it.
abbrev pub shown_behind : Finding → List ℤ → List Bool → List ℕ → Evidence
shown_behind find literals path [] =
    or_by_cases (find path [] (restricted path literals)) (evidence (matrix (clauses (restricted path literals)) []) (end ([] ∷ [])))
shown_behind find literals path (k ∷ kinds) =
    let at_true = shown_behind find literals (path ++ (true ∷ [])) kinds in
    let at_false = shown_behind find literals (path ++ (false ∷ [])) kinds in
    let by_cases = joined (kind_of k) at_true at_false in
    or_by_cases (find path (k ∷ kinds) (restricted path literals)) by_cases

unfoldable pub shown : Finding → List ℕ → List ℤ → Evidence
shown find kinds literals = shown_behind find literals [] kinds
