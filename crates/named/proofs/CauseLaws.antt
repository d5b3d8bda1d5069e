-- Entries by position stay what they are for causes 1 to 3: as many clauses, the last one ended, no literal beyond n. Assumes nothing.
use Prim.Native.Nat.{ℕ, zero, suc, ◌-◌}
use native.Mathlib.Omega.{arith}
use mathlib.Core.Path.{◌≡◌, refl, ap, ◌∙◌}
use mathlib.Core.Bool.{Bool, true, false}
use mathlib.Core.List.{List, [], ◌∷◌, map}
use borrow.Author.Tests.{le-ltb}
use lib.IntN.{ℤ, pos, negsuc, nat_abs}
use lib.ListN.{length, get_or}
use Rattle.formula.specs.Causes.{any, other_kind, zeros, is_zero, ended, beyond}
use Rattle.named.specs.Named.{position, signed, placed}
use Rattle.named.specs.Names.{Known}
use Rattle.named.specs.Closing.{closed_names, closed_kinds}
use Rattle.named.proofs.Positions.{position_some}
use Rattle.named.proofs.PlaceLaws.{position_within}

pub length_map : {A B : Type 0} (f : A → B) (l : List A) → length (map f l) ≡ length l
length_map f [] = refl
length_map f (x ∷ l) = ap suc (length_map f l)

-- The kinds of the names in front.
pub kinds_known : (free kinds : List ℕ) → any other_kind kinds ≡ false → any other_kind (closed_kinds free kinds) ≡ false
kinds_known [] kinds e = e
kinds_known (x ∷ free) kinds e = kinds_known free kinds e

pub as_many_closed : (free kinds names : List ℕ) → length kinds ≡ length names → length (closed_kinds free kinds) ≡ length (closed_names free names)
as_many_closed [] kinds names e = e
as_many_closed (x ∷ free) kinds names e = ap suc (as_many_closed free kinds names e)

module _ (names : List ℕ) where
  -- A known name's entry stays no end.
  zeros_some : (z : ℤ) (p : ℕ) (b : Bool) (zs : List ℤ) → z ≡ signed b (suc p) → zeros (z ∷ zs) ≡ zeros zs
  zeros_some z p true zs e = rw e refl
  zeros_some z p false zs e = rw e refl

  pub zeros_placed : (zs : List ℤ) → Known names zs → zeros (map (placed names) zs) ≡ zeros zs
  zeros_placed [] k = refl
  zeros_placed (pos zero ∷ zs) k = ap suc (zeros_placed zs k)
  zeros_placed (pos (suc v) ∷ zs) k =
      let p = position_some names (suc v) k.0 in
      zeros_some (placed names (pos (suc v))) p.0 false (map (placed names) zs) (ap (signed false) p.1) ∙ zeros_placed zs k.1
  zeros_placed (negsuc v ∷ zs) k =
      let p = position_some names (suc v) k.0 in
      zeros_some (placed names (negsuc v)) p.0 true (map (placed names) zs) (ap (signed true) p.1) ∙ zeros_placed zs k.1

  no_end : (z : ℤ) (p : ℕ) (b : Bool) → z ≡ signed b (suc p) → is_zero z ≡ false
  no_end z p true e = rw e refl
  no_end z p false e = rw e refl

  end_placed : (zs : List ℤ) → Known names zs → (i : ℕ) → is_zero (get_or (map (placed names) zs) i (pos 0)) ≡ is_zero (get_or zs i (pos 0))
  end_placed [] k i = refl
  end_placed (pos zero ∷ zs) k zero = refl
  end_placed (pos zero ∷ zs) k (suc i) = end_placed zs k i
  end_placed (pos (suc v) ∷ zs) k zero =
      let p = position_some names (suc v) k.0 in
      no_end (placed names (pos (suc v))) p.0 false (ap (signed false) p.1)
  end_placed (pos (suc v) ∷ zs) k (suc i) = end_placed zs k.1 i
  end_placed (negsuc v ∷ zs) k zero =
      let p = position_some names (suc v) k.0 in
      no_end (placed names (negsuc v)) p.0 true (ap (signed true) p.1)
  end_placed (negsuc v ∷ zs) k (suc i) = end_placed zs k.1 i

  pub ended_placed : (zs : List ℤ) → Known names zs → ended (map (placed names) zs) ≡ ended zs
  ended_placed zs k =
      ap (λ (n : ℕ). is_zero (get_or (map (placed names) zs) (n - 1) (pos 0))) (length_map (placed names) zs) ∙ end_placed zs k (length zs - 1)

  -- No position is beyond the last.
  signed_size : (b : Bool) (p : ℕ) → nat_abs (signed b p) ≡ p
  signed_size true zero = refl
  signed_size true (suc p) = refl
  signed_size false p = refl

  not_beyond : (b : Bool) (v : ℕ) → beyond (length names) (signed b (position v names)) ≡ false
  not_beyond b v = le-ltb (length names) (nat_abs (signed b (position v names))) (omega (arith, signed_size b (position v names), position_within v names))

  pub placed_within : (zs : List ℤ) → any (beyond (length names)) (map (placed names) zs) ≡ false
  placed_within [] = refl
  placed_within (pos zero ∷ zs) = rw (le-ltb (length names) 0 (omega arith)) (placed_within zs)
  placed_within (pos (suc v) ∷ zs) = rw (not_beyond false (suc v)) (placed_within zs)
  placed_within (negsuc v ∷ zs) = rw (not_beyond true (suc v)) (placed_within zs)
