-- Deciding by cases: a study that need not answer is asked first, and where it does not answer the formula is decided by the two cases of its first
-- unknown. Assumes nothing.
use Rattle.std.specs.Prelude.{ℕ, zero, suc, ◌≡◌, Bool, true, false, ◌&&◌, ◌||◌, List, [], ◌∷◌, ◌++◌, eqb, ℤ, nat_abs}
use Rattle.std.proofs.Math.Option.{Option, none, some}
use Rattle.formula.specs.Formula.{Kind, existential, universal, kind_of, clauses}
use Rattle.formula.specs.Meaning.{matrix, verdict}
use Rattle.case_rules.specs.Restricted.{IsAccepted, restricted}

-- 'A universal unknown in front: true if both values give true. An existential one: if at least one does.' First the case where it is true.
abbrev pub by_kind : Kind → Bool → Bool → Bool
by_kind existential a b = a || b
by_kind universal a b = a && b

-- An entry names the first unknown.
abbrev pub names_first : ℤ → Bool
names_first z = eqb (nat_abs z) 1

-- A study of kinds and literals, which may give no answer. What is lent to it besides may differ from case to case, so it is given the values that
-- are set, too.
abbrev pub Study : Type 0
Study = List Bool → List ℕ → List ℤ → Option Bool

-- Where it answers of an accepted formula it is right.
abbrev pub RightStudy : Study → Type 0
RightStudy study =
    (path : List Bool) (kinds : List ℕ) (literals : List ℤ) (v : Bool) → IsAccepted kinds literals → study path kinds literals ≡ some v
    → verdict kinds literals ≡ v

-- It answers where no unknown is left.
abbrev pub EndsStudy : Study → Type 0
EndsStudy study = (path : List Bool) (literals : List ℤ) → IsAccepted [] literals → study path [] literals ≡ none → ⊥

-- The study's answer, or else that of the cases.
abbrev pub or_else : Option Bool → Bool → Bool
or_else none by_cases = by_cases
or_else (some v) by_cases = v

-- The decision where the first unknowns are set to the path's values and these kinds are left. Each case is made from the lent literals. With no
-- unknown left the matrix has its value.
abbrev pub decided_behind : Study → List ℤ → List Bool → List ℕ → Bool
decided_behind study literals path [] =
    or_else (study path [] (restricted path literals)) (matrix (clauses (restricted path literals)) [])
decided_behind study literals path (k ∷ kinds) =
    let at_true = decided_behind study literals (path ++ (true ∷ [])) kinds in
    let at_false = decided_behind study literals (path ++ (false ∷ [])) kinds in
    let by_cases = by_kind (kind_of k) at_true at_false in
    or_else (study path (k ∷ kinds) (restricted path literals)) by_cases

unfoldable pub decided : Study → List ℕ → List ℤ → Bool
decided study kinds literals = decided_behind study literals [] kinds

-- ---- with at most `depth` unknowns set, so that there may be no answer

-- One case that answers may be enough: true for an existential unknown ..
abbrev pub some_or : Option Bool → Option Bool → Option Bool
some_or (some true) b = some true
some_or (some false) b = b
some_or none (some true) = some true
some_or none (some false) = none
some_or none none = none

-- .. and false for a universal one.
abbrev pub some_and : Option Bool → Option Bool → Option Bool
some_and (some false) b = some false
some_and (some true) b = b
some_and none (some false) = some false
some_and none (some true) = none
some_and none none = none

abbrev pub some_by_kind : Kind → Option Bool → Option Bool → Option Bool
some_by_kind existential a b = some_or a b
some_by_kind universal a b = some_and a b

-- The study's answer, or else that of the cases.
abbrev pub first_of : Option Bool → Option Bool → Option Bool
first_of none by_cases = by_cases
first_of (some v) by_cases = some v

abbrev pub tried_behind : Study → List ℤ → ℕ → List Bool → List ℕ → Option Bool
tried_behind study literals zero path kinds = study path kinds (restricted path literals)
tried_behind study literals (suc depth) path [] = study path [] (restricted path literals)
tried_behind study literals (suc depth) path (k ∷ kinds) =
    let at_true = tried_behind study literals depth (path ++ (true ∷ [])) kinds in
    let at_false = tried_behind study literals depth (path ++ (false ∷ [])) kinds in
    let by_cases = some_by_kind (kind_of k) at_true at_false in
    first_of (study path (k ∷ kinds) (restricted path literals)) by_cases

unfoldable pub tried : Study → ℕ → List ℕ → List ℤ → Option Bool
tried study depth kinds literals = tried_behind study literals depth [] kinds
