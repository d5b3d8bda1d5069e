-- A casebook: cases by the values of the first unknowns, and at each end rows for the formula with these unknowns set. Assumes nothing.
use Rattle.std.specs.Prelude.{ℕ, ◌+◌, Bool, true, false, not, ◌&&◌, List, [], ◌∷◌, ◌++◌, map, ℤ, length}
use Rattle.formula.specs.Formula.{Kind, kind_of, prefix, clauses}
use Rattle.formula.specs.Meaning.{matrix}
use Rattle.expansion.specs.Side.{own}
use Rattle.expansion.specs.OtherSide.{side_of}
use Rattle.expansion.specs.Play.{Row}
use Rattle.expansion.specs.Judge.{accepted}
use Rattle.case_rules.specs.Restricted.{restricted}

-- Rows; or the next unknown set to one value; or to true, and to false.
pub data Casebook : Type 0 where
  end : List Row → Casebook
  one : Bool → Casebook → Casebook
  both : Casebook → Casebook → Casebook

-- The unknown belongs to the side whose rows are offered, so one value of it is enough: an existential one for claim 1, a universal one for claim 0.
abbrev pub offered : Bool → Kind → Bool
offered claim k = not (own (side_of claim) k)

-- The casebook holds for a claim, where the first unknowns are set to the path's values and these kinds are left: at each end the judge accepts.
abbrev pub holds_behind : Bool → List ℤ → List Bool → List ℕ → Casebook → Bool
holds_behind claim literals path kinds (end rows) = accepted claim (prefix kinds) (matrix (clauses (restricted path literals))) rows
holds_behind claim literals path [] (one v book) = false
holds_behind claim literals path (k ∷ kinds) (one v book) =
    offered claim (kind_of k) && holds_behind claim literals (path ++ (v ∷ [])) kinds book
holds_behind claim literals path [] (both a b) = false
holds_behind claim literals path (k ∷ kinds) (both a b) =
    holds_behind claim literals (path ++ (true ∷ [])) kinds a && holds_behind claim literals (path ++ (false ∷ [])) kinds b

unfoldable pub holds : Bool → List ℕ → List ℤ → Casebook → Bool
holds claim kinds literals book = holds_behind claim literals [] kinds book

-- The rows of a casebook put together, as rows for the whole formula: where the next unknown belongs to the rows' side, its value goes in front of
-- each row.
abbrev pub with_value : Bool → List Row → List Row
with_value v rows = map (λ row. v ∷ row) rows

abbrev pub together : Bool → List Row → List Row → List Row
together true rows others = with_value true rows ++ with_value false others
together false rows others = rows ++ others

abbrev pub gathered : Bool → List ℕ → Casebook → List Row
gathered claim kinds (end rows) = rows
gathered claim [] (one v book) = []
gathered claim (k ∷ kinds) (one v book) = with_value v (gathered claim kinds book)
gathered claim [] (both a b) = []
gathered claim (k ∷ kinds) (both a b) = together (offered claim (kind_of k)) (gathered claim kinds a) (gathered claim kinds b)

-- How many rows stand at its ends.
abbrev pub rows_in : Casebook → ℕ
rows_in (end rows) = length rows
rows_in (one v book) = rows_in book
rows_in (both a b) = rows_in a + rows_in b
