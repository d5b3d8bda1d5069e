-- What is said of lists of names. Assumes nothing.
use Rattle.std.specs.Prelude.{ℕ, zero, suc, ◌≤◌, ◌<◌, ◌≡◌, List, [], ◌∷◌, ◌⊎◌, ℤ, pos, negsuc, nat_abs}
use Rattle.formula.specs.Formula.{Clause}

abbrev pub In : ℕ → List ℕ → Type 0
In v [] = ⊥
In v (x ∷ xs) = (x ≡ v) ⊎ In v xs

-- An entry has the name v, in either sign.
abbrev pub Stands : ℕ → List ℤ → Type 0
Stands v [] = ⊥
Stands v (z ∷ zs) = (nat_abs z ≡ v) ⊎ Stands v zs

-- No name stands twice.
abbrev pub Distinct : List ℕ → Type 0
Distinct [] = Unit {0}
Distinct (x ∷ xs) = (In x xs → ⊥) × Distinct xs

-- Each name is above those before it.
abbrev pub Above : ℕ → List ℕ → Type 0
Above v [] = Unit {0}
Above v (x ∷ xs) = (v < x) × Above x xs

abbrev pub Rising : List ℕ → Type 0
Rising [] = Unit {0}
Rising (x ∷ xs) = Above x xs

-- No name is above v.
abbrev pub UpTo : ℕ → List ℕ → Type 0
UpTo v [] = Unit {0}
UpTo v (x ∷ xs) = (x ≤ v) × UpTo v xs

-- Every name of a clause, of clauses, and of entries, in which 0 ends a clause, is one of the names.
abbrev pub InAll : List ℕ → Clause → Type 0
InAll names [] = Unit {0}
InAll names (pos zero ∷ c) = ⊥
InAll names (pos (suc v) ∷ c) = In (suc v) names × InAll names c
InAll names (negsuc v ∷ c) = In (suc v) names × InAll names c

abbrev pub AllIn : List ℕ → List Clause → Type 0
AllIn names [] = Unit {0}
AllIn names (c ∷ cs) = InAll names c × AllIn names cs

abbrev pub Known : List ℕ → List ℤ → Type 0
Known names [] = Unit {0}
Known names (pos zero ∷ zs) = Known names zs
Known names (pos (suc v) ∷ zs) = In (suc v) names × Known names zs
Known names (negsuc v ∷ zs) = In (suc v) names × Known names zs
