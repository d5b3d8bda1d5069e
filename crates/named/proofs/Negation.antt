-- A name or a position, negated, as 32-bit signed numbers have it. Assumes nothing.
use Prim.Native.Nat.{ℕ, zero, suc, ◌^◌, ◌≤◌, ◌<◌}
use mathlib.Core.Path.{◌≡◌, refl, sym, ap₂, subst, ◌∙◌}
use mathlib.Core.Bool.{Bool, true, false}
use mathlib.Core.List.{List}
use native.Mathlib.Omega.{arith}
use lib.IntN.{ℤ, pos, negsuc, neg_ℤ, nat_abs, ◌-ℤ◌, +ℤ_idl}
use lib.Signed.{lt_z}
use Rattle.formula.specs.Literal.{negative}
use Rattle.formula.proofs.Opposite.{below_zero_negative}
use Rattle.gates.proofs.EntryLaws.{small_fits}
use Rattle.named.specs.Named.{position, signed, placed}
use mir.Syntax.{w32}
use mir.Facts.{to_z-of_z}
use mir.Val.{of_z, to_z, SFits}
use mir.ValLaws.{to_z_pos}

pub as_positive : (p : ℕ) → p ≤ 65535 → to_z w32 p ≡ pos p
as_positive p h = to_z_pos w32 p (omega arith)

pub as_negative : (p : ℕ) → p ≤ 65535 → pos 0 -ℤ to_z w32 p ≡ neg_ℤ (pos p)
as_negative p h = rw (as_positive p h) (+ℤ_idl (neg_ℤ (pos p)))

pub negative_fits : (p : ℕ) → p ≤ 65535 → SFits w32 (neg_ℤ (pos p))
negative_fits zero h = record { sfits = omega arith }
negative_fits (suc n) h = record { sfits = omega arith }

pub signed_size : (b : Bool) (p : ℕ) → nat_abs (signed b p) ≡ p
signed_size true zero = refl
signed_size true (suc p) = refl
signed_size false p = refl

-- A literal as its bits give it.
pub signed_bits : (b : Bool) (v : ℕ) (y : ℤ) → v ≤ 65535 → y ≡ signed b v → to_z w32 (of_z w32 y) ≡ signed b v
signed_bits b v y small same = to_z-of_z (small_fits y (subst (λ (x : ℤ). nat_abs x < 2 ^ 31) (sym same) (omega (arith, signed_size b v)))) ∙ same

-- An entry other than 0 keeps its sign and gets its name's position.
pub placed_zero : (names : List ℕ) (z : ℤ) → nat_abs z ≡ 0 → pos 0 ≡ placed names z
placed_zero names (pos zero) none = refl
placed_zero names (pos (suc v)) none = absurd (omega arith)
placed_zero names (negsuc v) none = absurd (omega arith)

placed_by : (names : List ℕ) (z : ℤ) → (nat_abs z ≡ 0 → ⊥) → signed (negative z) (position (nat_abs z) names) ≡ placed names z
placed_by names (pos zero) some = absurd (some refl)
placed_by names (pos (suc v)) some = refl
placed_by names (negsuc v) some = refl

pub placed_some : (names : List ℕ) (z : ℤ) {r : ℤ} {p : ℕ} → (nat_abs z ≡ 0 → ⊥) → p ≡ position (nat_abs z) names → r ≡ signed (lt_z z (pos 0)) p →
    r ≡ placed names z
placed_some names z some place is = is ∙ ap₂ signed (below_zero_negative z) place ∙ placed_by names z some
