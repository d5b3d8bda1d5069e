-- The rows of a casebook put together have a value for each unknown of their side, if the rows at its ends have one for each that is left. Assumes nothing.
use Prim.Native.Nat.{ℕ, suc}
use mathlib.Core.Path.{◌≡◌, refl, sym, ap, ◌∙◌}
use mathlib.Core.Bool.{Bool, true, false, false≢true, and-eq-true_iff}
use mathlib.Core.List.{List, [], ◌∷◌, ◌++◌}
use mathlib.Core.Logic.{inl, inr}
use lib.IntN.{ℤ}
use lib.ListN.{length}
use Rattle.formula.specs.Formula.{Kind, existential, universal, kind_of, prefix}
use Rattle.formula.specs.Causes.{count}
use Rattle.expansion.specs.OtherSide.{side_of, other}
use Rattle.expansion.specs.Play.{Row}
use Rattle.expansion.proofs.Counting.{Sized}
use Rattle.case_rules.specs.Casebook.{Casebook, end, one, both, offered, holds_behind, holds, with_value, together, gathered}

-- The side whose rows are offered for a claim.
abbrev pub rows_side : Bool → Kind
rows_side claim = other (side_of claim)

-- At each end the rows have a value for each unknown of their side that is left.
abbrev pub SizedEnds : Bool → List ℕ → Casebook → Type 0
SizedEnds claim kinds (end rows) = Sized (count (rows_side claim) (prefix kinds)) rows
SizedEnds claim [] (one v book) = Unit {0}
SizedEnds claim (k ∷ kinds) (one v book) = SizedEnds claim kinds book
SizedEnds claim [] (both a b) = Unit {0}
SizedEnds claim (k ∷ kinds) (both a b) = SizedEnds claim kinds a × SizedEnds claim kinds b

sized_append : (n : ℕ) (rows others : List Row) → Sized n rows → Sized n others → Sized n (rows ++ others)
sized_append n [] others s t r h = t r h
sized_append n (x ∷ rows) others s t r (inl e) = s r (inl e)
sized_append n (x ∷ rows) others s t r (inr h) = sized_append n rows others (λ y l. s y (inr l)) t r h

sized_with_value : (n : ℕ) (v : Bool) (rows : List Row) → Sized n rows → Sized (suc n) (with_value v rows)
sized_with_value n v [] s r h = absurd h
sized_with_value n v (x ∷ rows) s r (inl e) = ap length e ∙ ap suc (s x (inl refl))
sized_with_value n v (x ∷ rows) s r (inr h) = sized_with_value n v rows (λ y l. s y (inr l)) r h

-- One unknown more of the rows' side, or of the other.
count_offered : (claim : Bool) (k : Kind) (ks : List Kind) → offered claim k ≡ true → count (rows_side claim) (k ∷ ks) ≡ suc (count (rows_side claim) ks)
count_offered true existential ks o = refl
count_offered true universal ks o = absurd (false≢true o)
count_offered false existential ks o = absurd (false≢true o)
count_offered false universal ks o = refl

count_not_offered : (claim : Bool) (k : Kind) (ks : List Kind) → offered claim k ≡ false → count (rows_side claim) (k ∷ ks) ≡ count (rows_side claim) ks
count_not_offered true existential ks o = absurd (false≢true (sym o))
count_not_offered true universal ks o = refl
count_not_offered false existential ks o = refl
count_not_offered false universal ks o = absurd (false≢true (sym o))

sized_as : (n m : ℕ) (rows : List Row) → m ≡ n → Sized n rows → Sized m rows
sized_as n m rows e s r h = s r h ∙ sym e

sized_together : (claim : Bool) (k : Kind) (ks : List Kind) (rows others : List Row) → Sized (count (rows_side claim) ks) rows
    → Sized (count (rows_side claim) ks) others
    → (b : Bool) → offered claim k ≡ b → Sized (count (rows_side claim) (k ∷ ks)) (together b rows others)
sized_together claim k ks rows others s t true o =
    let n = count (rows_side claim) ks in
    sized_as (suc n) (count (rows_side claim) (k ∷ ks)) (with_value true rows ++ with_value false others) (count_offered claim k ks o)
    (sized_append (suc n) (with_value true rows) (with_value false others) (sized_with_value n true rows s) (sized_with_value n false others t))
sized_together claim k ks rows others s t false o =
    let n = count (rows_side claim) ks in
    sized_as n (count (rows_side claim) (k ∷ ks)) (rows ++ others) (count_not_offered claim k ks o) (sized_append n rows others s t)

gathered_sized_behind : (claim : Bool) (literals : List ℤ) (path : List Bool) (kinds : List ℕ) (book : Casebook)
    → holds_behind claim literals path kinds book ≡ true → SizedEnds claim kinds book
    → Sized (count (rows_side claim) (prefix kinds)) (gathered claim kinds book)
gathered_sized_behind claim literals path kinds (end rows) h s = s
gathered_sized_behind claim literals path [] (one v book) h s = absurd (false≢true h)
gathered_sized_behind claim literals path (k ∷ kinds) (one v book) h s =
    let parts = (and-eq-true_iff (offered claim (kind_of k)) (holds_behind claim literals (path ++ (v ∷ [])) kinds book)).0 h in
    let n = count (rows_side claim) (prefix kinds) in
    sized_as (suc n) (count (rows_side claim) (prefix (k ∷ kinds))) (with_value v (gathered claim kinds book))
    (count_offered claim (kind_of k) (prefix kinds) parts.0)
    (sized_with_value n v (gathered claim kinds book) (gathered_sized_behind claim literals (path ++ (v ∷ [])) kinds book parts.1 s))
gathered_sized_behind claim literals path [] (both a b) h s = absurd (false≢true h)
gathered_sized_behind claim literals path (k ∷ kinds) (both a b) h s =
    let parts = (and-eq-true_iff (holds_behind claim literals (path ++ (true ∷ [])) kinds a) (holds_behind claim literals (path ++ (false ∷ [])) kinds b)).0
    h in
    sized_together claim (kind_of k) (prefix kinds) (gathered claim kinds a) (gathered claim kinds b)
    (gathered_sized_behind claim literals (path ++ (true ∷ [])) kinds a parts.0 s.0)
    (gathered_sized_behind claim literals (path ++ (false ∷ [])) kinds b parts.1 s.1)
    (offered claim (kind_of k)) refl

pub gathered_sized : (claim : Bool) (kinds : List ℕ) (literals : List ℤ) (book : Casebook) → holds claim kinds literals book ≡ true → SizedEnds claim kinds book
    → Sized (count (rows_side claim) (prefix kinds)) (gathered claim kinds book)
unfolding holds
gathered_sized claim kinds literals book h s = gathered_sized_behind claim literals [] kinds book h s
