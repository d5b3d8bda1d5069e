-- What is refused of a formula: causes 1 to 3 of 01's table, in its order, and the sizes of what is accepted. Assumes nothing.
use Rattle.std.specs.Prelude.{ℕ, zero, suc, ◌-◌, Bool, true, false, not, ◌||◌, List, [], ◌∷◌, ltb, ℤ, pos, negsuc, nat_abs, length, get_or, Result, Ok}
use Rattle.cause.specs.declared.Cause.{Cause}
use Rattle.cause.specs.declared.Cause.TheVariants.{Kinds, Literals, Beyond}
use Rattle.cause.specs.Cause.{refused_if, told}
use Rattle.formula.specs.declared.Formula.{Formula}
use Rattle.formula.specs.Formula.{max_unknowns, max_clauses, max_entries, Kind, existential, universal, prefix}

-- Whether a list has an element that passes a test.
abbrev pub any : {A : Type 0} → (A → Bool) → List A → Bool
any test [] = false
any test (x ∷ xs) = test x || any test xs

-- 'A kind not 0 or 1.'
abbrev pub other_kind : ℕ → Bool
other_kind zero = false
other_kind (suc zero) = false
other_kind (suc (suc k)) = true

-- Cause 1: 'over 128 kinds, or a kind not 0 or 1'.
unfoldable pub cause_1 : List ℕ → Bool
cause_1 kinds = ltb max_unknowns (length kinds) || any other_kind kinds

-- 'Each clause ended by 0': as many clauses as zeros.
abbrev pub zeros : List ℤ → ℕ
zeros [] = 0
zeros (pos zero ∷ zs) = suc (zeros zs)
zeros (pos (suc v) ∷ zs) = zeros zs
zeros (negsuc v ∷ zs) = zeros zs

-- Whether an entry ends a clause.
abbrev pub is_zero : ℤ → Bool
is_zero (pos zero) = true
is_zero (pos (suc v)) = false
is_zero (negsuc v) = false

-- Whether the last entry is 0. An empty list has none, and passes.
abbrev pub ended : List ℤ → Bool
ended literals = is_zero (get_or literals (length literals - 1) (pos 0))

-- Cause 2: 'over 8,192 literals, over 2,048 clauses, a last entry other than 0'. Zeros count as literals here.
unfoldable pub cause_2 : List ℤ → Bool
cause_2 literals = ltb max_entries (length literals) || (ltb max_clauses (zeros literals) || not (ended literals))

-- 'Beyond n either way': below -n or above n.
abbrev pub beyond : ℕ → ℤ → Bool
beyond n z = ltb n (nat_abs z)

-- Cause 3: 'literal beyond n either way'.
unfoldable pub cause_3 : ℕ → List ℤ → Bool
cause_3 n literals = any (beyond n) literals

-- The number of unknowns of a kind.
abbrev pub count : Kind → List Kind → ℕ
count k [] = zero
count existential (existential ∷ ks) = suc (count existential ks)
count existential (universal ∷ ks) = count existential ks
count universal (existential ∷ ks) = count universal ks
count universal (universal ∷ ks) = suc (count universal ks)

-- The sizes of a formula.
abbrev pub sizes : List ℕ → List ℤ → Formula
sizes kinds literals =
    record { unknowns = length kinds; universals = count universal (prefix kinds); clauses = zeros literals; entries = length literals }

-- 'A formula to which none of the causes 1 to 3 applies is accepted.' The first that applies is the one returned.
unfoldable pub checked : List ℕ → List ℤ → Result Formula Cause
checked kinds literals =
    refused_if (cause_1 kinds) Kinds
    (refused_if (cause_2 literals) Literals
    (refused_if (cause_3 (length kinds) literals) Beyond
    (Ok (sizes kinds literals))))

-- 01's number of each answer: 0 for an accepted formula, else the cause's.
abbrev pub number : Result Formula Cause → ℕ
number answer = told answer
