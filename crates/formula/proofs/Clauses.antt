-- Entries that end in 0 have as many clauses as zeros.
-- Assumes nothing.
use Prim.Native.Nat.{zero, suc, ◌<◌}
use native.Mathlib.Numerals.{sub-one}
use native.Mathlib.Omega.{arith}
use mathlib.Core.Path.{◌≡◌, refl, sym, ap, ◌∙◌}
use mathlib.Core.Bool.{true, false≢true}
use mathlib.Core.List.{List, [], ◌∷◌}
use lib.IntN.{ℤ, pos, negsuc}
use lib.ListN.{length}
use Rattle.formula.specs.Formula.{Clause, onto, clauses}
use Rattle.formula.specs.Causes.{zeros, ended}

ended_behind : (z y : ℤ) (zs : List ℤ) → ended (z ∷ y ∷ zs) ≡ ended (y ∷ zs)
ended_behind z y zs = simp sub-one

length_onto : (z : ℤ) (cs : List Clause) → 0 < length cs → length (onto z cs) ≡ length cs
length_onto z [] some = absurd (omega arith)
length_onto z (c ∷ cs) some = refl

-- A literal in front of entries that have a zero for each clause, and one at least.
behind_literal : (z : ℤ) (zs : List ℤ) → (length (clauses zs) ≡ zeros zs) × (0 < zeros zs) → length (onto z (clauses zs)) ≡ zeros zs
behind_literal z zs known = length_onto z (clauses zs) (rw known.0 known.1) ∙ known.0

zeros_some : (z : ℤ) (zs : List ℤ) → ended (z ∷ zs) ≡ true → (length (clauses (z ∷ zs)) ≡ zeros (z ∷ zs)) × (0 < zeros (z ∷ zs))
zeros_some (pos zero) [] end = (refl, omega arith)
zeros_some (pos (suc v)) [] end = absurd (false≢true end)
zeros_some (negsuc v) [] end = absurd (false≢true end)
zeros_some (pos zero) (y ∷ zs) end =
    let known = zeros_some y zs (sym (ended_behind (pos zero) y zs) ∙ end) in
    (ap suc known.0, omega arith)
zeros_some (pos (suc v)) (y ∷ zs) end =
    let known = zeros_some y zs (sym (ended_behind (pos (suc v)) y zs) ∙ end) in
    (behind_literal (pos (suc v)) (y ∷ zs) known, known.1)
zeros_some (negsuc v) (y ∷ zs) end =
    let known = zeros_some y zs (sym (ended_behind (negsuc v) y zs) ∙ end) in
    (behind_literal (negsuc v) (y ∷ zs) known, known.1)

pub length_clauses : (l : List ℤ) → ended l ≡ true → length (clauses l) ≡ zeros l
length_clauses [] end = refl
length_clauses (z ∷ zs) end = (zeros_some z zs end).0
