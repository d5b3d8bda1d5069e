-- The entries of a gate's clauses, input by input, and how many there are. Assumes nothing.
use Prim.Native.Nat.{ℕ, suc, ◌+◌, ◌*◌, ◌^◌, ◌≤◌, ◌<◌}
use native.Mathlib.Omega.{arith}
use mathlib.Core.Path.{◌≡◌, refl, sym, ap, ◌∙◌}
use mathlib.Core.Bool.{Bool, true, false, not}
use mathlib.Core.List.{List, [], ◌∷◌, ◌++◌, map}
use borrow.Author.Tests.{ltb-false}
use lib.IntN.{ℤ, pos, negsuc, neg_ℤ, nat_abs, ◌-ℤ◌}
use lib.ListN.{length, drop, set, get_or, length-append, drop_of_length-le}
use lib.Seq.{sets, drop-cons}
use mir.Facts.{to_z-of_z}
use mir.Syntax.{w32}
use mir.Val.{SFits, of_z, to_z}
use Rattle.formula.specs.Causes.{any, beyond}
use Rattle.formula.proofs.Any.{any_none}
use Rattle.formula.proofs.Opposite.{bits_opposite, opposite_fits}
use Rattle.gates.specs.Private.Steps.{turn, pair_entries, long_entries, gathered_entries, triple_entries, parity_entries}
use Rattle.gates.proofs.SetLaws.{sets_append}

-- Every literal but the lowest has an opposite.
pub small_at : (is : List ℤ) → any (beyond 2147483647) is ≡ false → (i : ℕ) → nat_abs (get_or is i (pos 0)) < 2 ^ 31
small_at is none i = let le = ltb-false 2147483647 (nat_abs (get_or is i (pos 0))) (any_none (beyond 2147483647) (pos 0) refl is none i) in omega arith

-- It is stored as it is, turned or not.
pub small_fits : (z : ℤ) → nat_abs z < 2 ^ 31 → SFits w32 z
small_fits (pos n) small = record { sfits = small }
small_fits (negsuc n) small = record { sfits = omega arith }

turned_fits : (b : Bool) (z : ℤ) → nat_abs z < 2 ^ 31 → SFits w32 (turn b z)
turned_fits true z small = opposite_fits z small
turned_fits false z small = small_fits z small

pub stored : (b : Bool) (z r : ℤ) → nat_abs z < 2 ^ 31 → r ≡ turn b (to_z w32 (of_z w32 z)) → to_z w32 (of_z w32 r) ≡ turn b z
stored b z r small e =
    let same : r ≡ turn b z = e ∙ ap (turn b) (to_z-of_z (small_fits z small)) in
    ap (λ (y : ℤ). to_z w32 (of_z w32 y)) same ∙ to_z-of_z (turned_fits b z small)

-- One input more, in a clause of two literals or in the long clause.
module _ (E : List ℤ) (to : ℕ) (first : ℤ) (turned : Bool) (is : List ℤ) (i : ℕ) where
  front : i < length is → drop i is ≡ get_or is i (pos 0) ∷ drop (i + 1) is
  front below = let e : suc i ≡ i + 1 = omega arith in drop-cons is i (pos 0) below ∙ ap (λ (k : ℕ). get_or is i (pos 0) ∷ drop k is) e

  pub pairs_more : i < length is → (r : ℤ) → r ≡ turn turned (get_or is i (pos 0))
      → sets E to (pair_entries first turned (drop i is)) ≡ sets (set (set (set E to first) (to + 1) r) (to + 2) (pos 0)) (to + 3)
      (pair_entries first turned (drop (i + 1) is))
  unfolding pair_entries
  pairs_more below r e =
      let one : to + 1 ≡ suc to = omega arith in
      let two : to + 2 ≡ suc (suc to) = omega arith in
      let three : to + 3 ≡ suc (suc (suc to)) = omega arith in
      rw (front below, e, one, two, three) refl

  pub pairs_done : length is ≤ i → sets E to (pair_entries first turned (drop i is)) ≡ E
  unfolding pair_entries
  pairs_done past = rw (drop_of_length-le is past) refl

  pub long_more : i < length is → (r : ℤ) → r ≡ turn turned (get_or is i (pos 0))
      → sets E to (map (turn turned) (drop i is) ++ (pos 0 ∷ [])) ≡ sets (set E to r) (to + 1) (map (turn turned) (drop (i + 1) is) ++ (pos 0 ∷ []))
  long_more below r e =
      let one : to + 1 ≡ suc to = omega arith in
      rw (front below, e, one) refl

  pub long_done : length is ≤ i → sets E to (map (turn turned) (drop i is) ++ (pos 0 ∷ [])) ≡ set E to (pos 0)
  long_done past = rw (drop_of_length-le is past) refl

pub long_first : (E : List ℤ) (at : ℕ) (first : ℤ) (turned : Bool) (is : List ℤ)
    → sets E at (long_entries first turned is) ≡ sets (set E at first) (at + 1) (map (turn turned) is ++ (pos 0 ∷ []))
unfolding long_entries
long_first E at first turned is = let one : at + 1 ≡ suc at = omega arith in rw one refl

length_map : (f : ℤ → ℤ) (is : List ℤ) → length (map f is) ≡ length is
length_map f [] = refl
length_map f (i ∷ is) = ap suc (length_map f is)

pub length_pairs : (first : ℤ) (turned : Bool) (is : List ℤ) → length (pair_entries first turned is) ≡ 3 * length is
unfolding pair_entries
length_pairs first turned [] = refl
length_pairs first turned (i ∷ is) = let e = length_pairs first turned is in omega arith

pub length_long : (first : ℤ) (turned : Bool) (is : List ℤ) → length (long_entries first turned is) ≡ length is + 2
unfolding long_entries
length_long first turned is = let e = length-append (map (turn turned) is) (pos 0 ∷ []) in let m = length_map (turn turned) is in omega arith

pub length_gathered : (near far : ℤ) (turned : Bool) (is : List ℤ) → length (gathered_entries near far turned is) ≡ 4 * length is + 2
unfolding gathered_entries
length_gathered near far turned is =
    let e = length-append (pair_entries near turned is) (long_entries far (not turned) is) in
    let p = length_pairs near turned is in
    let l = length_long far (not turned) is in
    omega arith

-- The four clauses of `^`, whose literals come through their bits.
abbrev pub word : ℤ → ℤ
word z = to_z w32 (of_z w32 z)

abbrev pub opposite_word : ℤ → ℤ
opposite_word z = word (pos 0 -ℤ word z)

pub opposite_small : (z : ℤ) → nat_abs z < 2 ^ 31 → SFits w32 (pos 0 -ℤ word z)
opposite_small z small = rw (bits_opposite (small_fits z small)) (opposite_fits z small)

pub opposite_is : (z : ℤ) → nat_abs z < 2 ^ 31 → opposite_word z ≡ neg_ℤ z
opposite_is z small = to_z-of_z (opposite_small z small) ∙ bits_opposite (small_fits z small)

pub four_put : (E₀ E₁ E₂ E₃ E₄ : List ℤ) (at : ℕ) (g s t : ℤ) → nat_abs g < 2 ^ 31 → nat_abs s < 2 ^ 31 → nat_abs t < 2 ^ 31
    → E₁ ≡ sets E₀ at (triple_entries (opposite_word g) (word s) (word t))
    → E₂ ≡ sets E₁ (at + 4) (triple_entries (opposite_word g) (opposite_word s) (opposite_word t))
    → E₃ ≡ sets E₂ (at + 8) (triple_entries (word g) (opposite_word s) (word t))
    → E₄ ≡ sets E₃ (at + 12) (triple_entries (word g) (word s) (opposite_word t))
    → E₄ ≡ sets E₀ at (parity_entries g (s ∷ t ∷ []))
unfolding parity_entries
four_put E₀ E₁ E₂ E₃ E₄ at g s t small_g small_s small_t one two three four =
    let a : at + 4 ≡ suc (suc (suc (suc at))) = omega arith in
    let b : at + 8 ≡ suc (suc (suc (suc (suc (suc (suc (suc at))))))) = omega arith in
    let c : at + 12 ≡ suc (suc (suc (suc (suc (suc (suc (suc (suc (suc (suc (suc at))))))))))) = omega arith in
    rw (
      four,
      three,
      two,
      one,
      opposite_is g small_g,
      opposite_is s small_s,
      opposite_is t small_t,
      to_z-of_z (small_fits g small_g),
      to_z-of_z
          (small_fits s small_s),
      to_z-of_z (small_fits t small_t),
      a,
      b,
      c,
    ) refl

pub length_four : (g : ℤ) (is : List ℤ) → length is ≡ 2 → length (parity_entries g is) ≡ 16
unfolding parity_entries
length_four g [] e = absurd (omega arith)
length_four g (s ∷ []) e = absurd (omega arith)
length_four g (s ∷ t ∷ []) e = refl
length_four g (s ∷ t ∷ u ∷ is) e = absurd (omega arith)

pub four_inputs : (E : List ℤ) (at : ℕ) (g : ℤ) (is : List ℤ) → nat_abs g < 2 ^ 31 → any (beyond 2147483647) is ≡ false → length is ≡ 2
    → sets E at (parity_entries (word g) (word (get_or is 0 (pos 0)) ∷ word (get_or is 1 (pos 0)) ∷ [])) ≡ sets E at (parity_entries g is)
four_inputs E at g [] small none e = absurd (omega arith)
four_inputs E at g (s ∷ []) small none e = absurd (omega arith)
four_inputs E at g (s ∷ t ∷ []) small none e =
    rw (to_z-of_z (small_fits g small), to_z-of_z (small_fits s (small_at (s ∷ t ∷ []) none 0)), to_z-of_z (small_fits t (small_at (s ∷ t ∷ []) none 1))) refl
four_inputs E at g (s ∷ t ∷ u ∷ is) small none e = absurd (omega arith)

pub none_of_four : (g : ℤ) (is : List ℤ) → (length is ≡ 2 → ⊥) → parity_entries g is ≡ []
unfolding parity_entries
none_of_four g [] other = refl
none_of_four g (s ∷ []) other = refl
none_of_four g (s ∷ t ∷ []) other = absurd (other refl)
none_of_four g (s ∷ t ∷ u ∷ is) other = refl

-- `near` with each, then `far` with all.
pub gathered_put : (E₀ E₁ E₂ : List ℤ) (at : ℕ) (near far : ℤ) (turned : Bool) (is : List ℤ)
    → E₁ ≡ sets E₀ at (pair_entries near turned is) → E₂ ≡ sets E₁ (at + 3 * length is) (long_entries far (not turned) is)
    → E₂ ≡ sets E₀ at (gathered_entries near far turned is)
unfolding gathered_entries
gathered_put E₀ E₁ E₂ at near far turned is one two =
    two
    ∙ ap (λ (E : List ℤ). sets E (at + 3 * length is) (long_entries far (not turned) is)) one
    ∙ ap (λ (n : ℕ). sets (sets E₀ at (pair_entries near turned is)) (at + n) (long_entries far (not turned) is)) (sym (length_pairs near turned is))
    ∙ sym (sets_append E₀ (pair_entries near turned is) (long_entries far (not turned) is) at)
