-- Copies of unknowns and their numbers. Assumes nothing.
use Rattle.std.specs.Prelude.{ℕ, zero, suc, Bool, true, false, ◌&&◌, cond, List, [], ◌∷◌, ◌++◌, map, eqb}
use Rattle.std.specs.Bool.{beq}
use Rattle.expansion.specs.Play.{Row, restriction}

-- Two rows are equal; a row stands in a list.
abbrev pub same : Row → Row → Bool
same [] [] = true
same [] (b ∷ bs) = false
same (a ∷ l) [] = false
same (a ∷ l) (b ∷ bs) = beq a b && same l bs

abbrev pub among : Row → List Row → Bool
among r [] = false
among r (x ∷ xs) = cond (same r x) true (among r xs)

-- The rows of a list that are not among those already seen, each once, in order.
abbrev pub fresh : List Row → List Row → List Row
fresh seen [] = []
fresh seen (x ∷ xs) =
    let skipped = fresh seen xs in
    let kept = x ∷ fresh (x ∷ seen) xs in
    cond (among x seen) skipped kept

-- A copy of an unknown (an annotated variable): the unknown's position and a restriction.
pub record Copy : Type 0 where
  pub position : ℕ
  pub restricted : Row

abbrev pub copy_at : ℕ → Row → Copy
copy_at k r = record { position = k; restricted = r }

-- 'Each own unknown has one copy for each different restriction of the rows to the others' unknowns before it': the copies at one position.
abbrev pub copies_at : List Bool → List Row → ℕ → List Copy
copies_at ts rows k = map (copy_at k) (fresh [] (map (restriction ts k) rows))

-- The copies at the positions that are left, of which k is the first; ts flags all positions.
abbrev pub copies_from : List Bool → List Row → ℕ → List Bool → List Copy
copies_from ts rows k [] = []
copies_from ts rows k (true ∷ left) = copies_at ts rows k ++ copies_from ts rows (suc k) left
copies_from ts rows k (false ∷ left) = copies_from ts rows (suc k) left

-- 'Copies are numbered from 0, by prefix position, then by the first row that has the restriction': a copy's number is its place here.
unfoldable pub copies : List Bool → List Row → List Copy
copies ts rows = copies_from ts rows zero ts

-- The value of a copy, where the copies have these values by number; false for what is no copy.
abbrev pub value_of : List Copy → List Bool → ℕ → Row → Bool
value_of [] vs k r = false
value_of (c ∷ cs) [] k r = false
value_of (c ∷ cs) (v ∷ vs) k r = cond (eqb c.position k && same c.restricted r) v (value_of cs vs k r)
