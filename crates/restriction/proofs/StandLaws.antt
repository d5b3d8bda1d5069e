-- Whether a clause is kept, read entry by entry from its first one on. Assumes nothing.
use Prim.Native.Nat.{ℕ, zero, suc, ◌+◌, ◌-◌, ◌≤◌, ◌<◌}
use mathlib.Core.Path.{◌≡◌, refl, sym, ap, ap₂, ◌∙◌}
use mathlib.Core.Bool.{Bool, true, false, not, ◌&&◌}
use mathlib.Core.List.{List, ◌∷◌}
use lib.IntN.{ℤ, pos, negsuc, nat_abs}
use lib.ListN.{length, get_or, drop, drop_of_length-le}
use Rattle.formula.specs.Literal.{negative}
use Rattle.formula.proofs.Places.{drop_front}
use Rattle.case_rules.specs.Restricted.{standing}
use Rattle.restriction.specs.Private.Walk.{meets, stands, kept_after}
use Rattle.restriction.proofs.WalkLaws.{stands_past, stands_end, stands_more}
use Rattle.restriction.proofs.EntryLaws.{met_literal, end_known, literal_known}

module _ (vs : List Bool) (literals : List ℤ) (i : ℕ) where
  abbrev z : ℤ
  z = get_or literals i (pos 0)

  pub at_last : length literals ≤ i → stands vs (drop i literals) ≡ true
  at_last past = ap (stands vs) (drop_of_length-le literals past) ∙ stands_past vs

  module _ (below : i < length literals) where
    pub at_end : nat_abs z ≡ 0 → stands vs (drop i literals) ≡ true
    at_end e =
        ap (stands vs) (drop_front literals i (pos 0) below)
        ∙ ap (λ (y : ℤ). stands vs (y ∷ drop (i + 1) literals)) (end_known z e)
        ∙ stands_end vs (drop (i + 1) literals)

    -- A literal, by its name and its sign.
    module _ (name : ℕ) (sign : Bool) (en : name ≡ nat_abs z) (es : sign ≡ negative z) (some_name : name ≡ 0 → ⊥) where
      at_literal : stands vs (drop i literals) ≡ not (meets sign (standing vs (name - 1))) && stands vs (drop (i + 1) literals)
      at_literal =
          let nonzero = literal_known z (λ e. some_name (en ∙ e)) in
          let by_name = ap₂ (λ (s : Bool) (n : ℕ). meets s (standing vs (n - 1))) (sym es) (sym en) in
          ap (stands vs) (drop_front literals i (pos 0) below)
          ∙ stands_more vs z (drop (i + 1) literals) nonzero
          ∙ ap (λ (b : Bool). not b && stands vs (drop (i + 1) literals)) (met_literal vs z nonzero ∙ by_name)

      pub at_true : meets sign (standing vs (name - 1)) ≡ true → stands vs (drop i literals) ≡ false
      at_true e = at_literal ∙ ap (λ (b : Bool). not b && stands vs (drop (i + 1) literals)) e

      pub at_other : meets sign (standing vs (name - 1)) ≡ false → stands vs (drop i literals) ≡ stands vs (drop (i + 1) literals)
      at_other e = at_literal ∙ ap (λ (b : Bool). not b && stands vs (drop (i + 1) literals)) e

-- ---- behind an entry

pub kept_behind_end : (vs : List Bool) (kept : Bool) (z : ℤ) (zs : List ℤ) → nat_abs z ≡ 0 → kept_after vs kept z zs ≡ stands vs zs
kept_behind_end vs kept z zs e = ap (λ (y : ℤ). kept_after vs kept y zs) (end_known z e)

pub kept_behind_literal : (vs : List Bool) (kept : Bool) (z : ℤ) (zs : List ℤ) → (nat_abs z ≡ 0 → ⊥) → kept_after vs kept z zs ≡ kept
kept_behind_literal vs kept (pos zero) zs h = absurd (h refl)
kept_behind_literal vs kept (pos (suc v)) zs h = refl
kept_behind_literal vs kept (negsuc v) zs h = refl
