-- One entry, by its name and its sign as the code reads them. Assumes nothing.
use Prim.Native.Nat.{ℕ, zero, suc, ◌-◌, ◌≤◌, ◌<◌}
use native.Mathlib.Omega.{arith}
use mathlib.Core.Path.{◌≡◌, refl, sym, ap, ◌∙◌}
use mathlib.Core.Bool.{Bool, true, false, not, true≢false}
use mathlib.Core.List.{List, [], ◌∷◌}
use borrow.Author.Tests.{leb-true, leb-false, ne_eqb}
use lib.Dec.{eqb, leb}
use lib.IntN.{ℤ, pos, negsuc, nat_abs}
use lib.ListN.{length, get_or, length-map, get_or-map}
use Rattle.formula.specs.Literal.{negative}
use Rattle.named.specs.Named.{signed}
use Rattle.case_rules.specs.Restricted.{Standing, known, behind, standing, plain, negated, of_literal}
use Rattle.case_rules.proofs.RestrictedLaws.{NotZero}
use Rattle.restriction.specs.Outcome.{value_of, values_of}
use Rattle.restriction.specs.Private.Walk.{meets, is_set, literal_left, entry_left}
use Rattle.restriction.proofs.WalkLaws.{is_met}

-- ---- an unknown by its position

pub standing_known : (vs : List Bool) (v : ℕ) → v < length vs → standing vs v ≡ known (get_or vs v false)
standing_known [] v h = absurd (omega arith)
standing_known (b ∷ vs) zero h = refl
standing_known (b ∷ vs) (suc v) h = standing_known vs v (omega arith)

pub standing_behind : (vs : List Bool) (v : ℕ) → length vs ≤ v → standing vs v ≡ behind (v - length vs)
standing_behind [] v h = let e : v ≡ v - 0 = omega arith in ap behind e
standing_behind (b ∷ vs) zero h = absurd (omega arith)
standing_behind (b ∷ vs) (suc v) h =
    let e : v - length vs ≡ suc v - suc (length vs) = omega arith in standing_behind vs v (omega arith) ∙ ap behind e

pub as_many : (values : List ℕ) → length (values_of values) ≡ length values
as_many values = length-map values value_of

-- ---- whether a literal is true

pub meets_known : (negative : Bool) (values : List ℕ) (v : ℕ) → v < length values
    → meets negative (standing (values_of values) v) ≡ meets negative (known (value_of (get_or values v 0)))
meets_known negative values v h =
    ap (meets negative)
    (standing_known (values_of values) v (let e = as_many values in omega arith) ∙ ap known (get_or-map value_of values v 0))

pub meets_behind : (negative : Bool) (values : List ℕ) (v : ℕ) → length values ≤ v → meets negative (standing (values_of values) v) ≡ false
meets_behind true values v h = ap (meets true) (standing_behind (values_of values) v (let e = as_many values in omega arith))
meets_behind false values v h = ap (meets false) (standing_behind (values_of values) v (let e = as_many values in omega arith))

pub value_positive : (b : ℕ) → value_of b ≡ not (eqb b 0)
value_positive zero = refl
value_positive (suc b) = sym (ap not (ne_eqb (suc b) 0 (λ e. omega arith)))

pub value_negative : (b : ℕ) → not (value_of b) ≡ eqb b 0
value_negative zero = refl
value_negative (suc b) = sym (ne_eqb (suc b) 0 (λ e. omega arith))

met_plain : (s : Standing) → is_met (plain s) ≡ meets false s
met_plain (known true) = refl
met_plain (known false) = refl
met_plain (behind v) = refl

met_negated : (s : Standing) → is_met (negated s) ≡ meets true s
met_negated (known true) = refl
met_negated (known false) = refl
met_negated (behind v) = refl

-- By name and sign.
pub met_literal : (vs : List Bool) (z : ℤ) → NotZero z → is_met (of_literal vs z) ≡ meets (negative z) (standing vs (nat_abs z - 1))
met_literal vs (pos zero) h = absurd h
met_literal vs (pos (suc v)) h = let e : v ≡ suc v - 1 = omega arith in met_plain (standing vs v) ∙ ap (λ (k : ℕ). meets false (standing vs k)) e
met_literal vs (negsuc v) h = let e : v ≡ suc v - 1 = omega arith in met_negated (standing vs v) ∙ ap (λ (k : ℕ). meets true (standing vs k)) e

-- ---- what is left of an entry

pub end_known : (z : ℤ) → nat_abs z ≡ 0 → z ≡ pos 0
end_known (pos zero) e = refl
end_known (pos (suc v)) e = absurd (omega arith)
end_known (negsuc v) e = absurd (omega arith)

pub literal_known : (z : ℤ) → (nat_abs z ≡ 0 → ⊥) → NotZero z
literal_known (pos zero) h = h refl
literal_known (pos (suc v)) h = tt
literal_known (negsuc v) h = tt

left_known : (b : Bool) → (literal_left (plain (known b)) ≡ []) × (literal_left (negated (known b)) ≡ [])
left_known true = (refl, refl)
left_known false = (refl, refl)

-- Nothing of a literal whose unknown is set ..
pub entry_set : (vs : List Bool) (z : ℤ) → is_set (nat_abs z) (length vs) ≡ true → entry_left vs true z ≡ []
entry_set vs (pos zero) e = absurd (true≢false (sym e))
entry_set vs (pos (suc v)) e =
    let below = leb-true (suc v) (length vs) e in
    ap (λ (s : Standing). literal_left (plain s)) (standing_known vs v (omega arith)) ∙ (left_known (get_or vs v false)).0
entry_set vs (negsuc v) e =
    let below = leb-true (suc v) (length vs) e in
    ap (λ (s : Standing). literal_left (negated s)) (standing_known vs v (omega arith)) ∙ (left_known (get_or vs v false)).1

not_set : (v depth : ℕ) → leb (suc v) depth ≡ false → depth ≤ v
not_set v depth e = let past = leb-false (suc v) depth e in omega arith

-- .. and of any other the name counted from the unknowns behind, with its sign; an end stays.
pub entry_moved : (vs : List Bool) (z : ℤ) → is_set (nat_abs z) (length vs) ≡ false
    → entry_left vs true z ≡ signed (negative z) (nat_abs z - length vs) ∷ []
entry_moved vs (pos zero) e = let d : 0 ≡ 0 - length vs = omega arith in ap (λ (k : ℕ). pos k ∷ []) d
entry_moved vs (pos (suc v)) e =
    let past = not_set v (length vs) e in
    let d : suc (v - length vs) ≡ suc v - length vs = omega arith in
    ap (λ (s : Standing). literal_left (plain s)) (standing_behind vs v past) ∙ ap (λ (k : ℕ). pos k ∷ []) d
entry_moved vs (negsuc v) e =
    let past = not_set v (length vs) e in
    let d : suc (v - length vs) ≡ suc v - length vs = omega arith in
    ap (λ (s : Standing). literal_left (negated s)) (standing_behind vs v past) ∙ ap (λ (k : ℕ). signed true k ∷ []) d
