-- What the code writes for each function is the definition's. Assumes nothing.
use Prim.Native.Nat.{◌^◌, ◌<◌}
use mathlib.Core.Path.{◌≡◌, refl, sym, ap, ◌∙◌}
use mathlib.Core.Bool.{true, false, or-true}
use mathlib.Core.List.{List, [], ◌∷◌, ◌++◌, map}
use lib.IntN.{ℤ, pos, neg_ℤ, nat_abs}
use mir.Facts.{to_z-of_z}
use mir.Syntax.{w32}
use mir.Val.{SFits, of_z}
use Rattle.formula.specs.Causes.{any, beyond}
use Rattle.formula.specs.Formula.{Clause}
use Rattle.formula.proofs.Opposite.{beyond_lowest, beyond_other}
use Rattle.gates.specs.declared.Function.{Function}
use Rattle.gates.specs.declared.Function.TheVariants.{And, Or, Xor}
use Rattle.gates.specs.Clauses.{with_each, negated, gate_clauses, flat}
use Rattle.gates.specs.Put.{entries_of}
use Rattle.gates.specs.Private.Steps.{turn, pair_entries, long_entries, gathered_entries, parity_entries}
use Rattle.gates.proofs.EntryLaws.{word, opposite_word, opposite_is, small_fits}

-- Clauses one list behind the other.
pub flat_append : (cs ds : List Clause) → flat (cs ++ ds) ≡ flat cs ++ flat ds
flat_append [] ds = refl
flat_append (c ∷ cs) ds = ap (λ (zs : List ℤ). c ++ (pos 0 ∷ zs)) (flat_append cs ds) ∙ sym (append_assoc c (pos 0 ∷ flat cs) (flat ds))
  where
    append_assoc : (xs ys zs : List ℤ) → (xs ++ ys) ++ zs ≡ xs ++ (ys ++ zs)
    append_assoc [] ys zs = refl
    append_assoc (x ∷ xs) ys zs = ap (λ (r : List ℤ). x ∷ r) (append_assoc xs ys zs)

not_turned : (is : List ℤ) → map (turn false) is ≡ is
not_turned [] = refl
not_turned (i ∷ is) = ap (λ (r : List ℤ). i ∷ r) (not_turned is)

module _ (function : Function) (z : ℤ) (is : List ℤ) where
  pub own_lowest : of_z w32 z ≡ 2147483648 → entries_of function z is ≡ []
  unfolding entries_of
  own_lowest lowest = rw (beyond_lowest z lowest) refl

  pub input_lowest : any (beyond 2147483647) is ≡ true → entries_of function z is ≡ []
  unfolding entries_of
  input_lowest lowest = rw (lowest, or-true (beyond 2147483647 z)) refl

  module _ (fits : SFits w32 z) (other : of_z w32 z ≡ 2147483648 → ⊥) (small : nat_abs z < 2 ^ 31) (none : any (beyond 2147483647) is ≡ false) where
    whole : entries_of function z is ≡ flat (gate_clauses function z is)
    unfolding entries_of
    whole = rw (beyond_other z fits other, none) refl

    pub and_entries : function ≡ And → gathered_entries (opposite_word z) (word z) false is ≡ entries_of function z is
    unfolding gathered_entries pair_entries long_entries
    and_entries e =
        rw (opposite_is z small, to_z-of_z (small_fits z small), not_turned is)
        (sym (flat_append (with_each (neg_ℤ z) is) ((z ∷ negated is) ∷ [])) ∙ ap (λ (f : Function). flat (gate_clauses f z is)) (sym e) ∙ sym whole)

    pub or_entries : function ≡ Or → gathered_entries (word z) (opposite_word z) true is ≡ entries_of function z is
    unfolding gathered_entries pair_entries long_entries
    or_entries e =
        rw (opposite_is z small, to_z-of_z (small_fits z small), not_turned is)
        (sym (flat_append (with_each z (negated is)) ((neg_ℤ z ∷ is) ∷ [])) ∙ ap (λ (f : Function). flat (gate_clauses f z is)) (sym e) ∙ sym whole)

    pub xor_entries : function ≡ Xor → parity_entries (word z) is ≡ entries_of function z is
    unfolding parity_entries
    xor_entries e = rw (to_z-of_z (small_fits z small)) (ap (λ (f : Function). flat (gate_clauses f z is)) (sym e) ∙ sym whole)
