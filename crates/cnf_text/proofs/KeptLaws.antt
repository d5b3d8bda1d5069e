-- Whether a clause is kept, and the first row with the same first bits, as the loops find them. Assumes nothing.
use Prim.Native.Nat.{ℕ, zero, suc, ◌≤◌, ◌<◌}
use native.Mathlib.Omega.{arith}
use mathlib.Core.Path.{◌≡◌, refl, sym, ap, subst, ◌∙◌}
use mathlib.Core.Bool.{Bool, true, false, ◌&&◌, beq, true≢false, false≢true}
use mathlib.Core.List.{List}
use mathlib.Core.Logic.{⊎_elim, inl, inr, ◌⊎◌}
use borrow.Author.Tests.{eq-eqb, ne_eqb}
use lib.IntN.{ℤ, pos}
use lib.ListN.{get_or}
use Rattle.formula.specs.Literal.{magnitude_at}
use Rattle.rows.specs.Row.{bit_of}
use Rattle.rows.specs.Table.{row_at}
use Rattle.cnf_text.specs.Private.Walk.{kept_from, kept_behind, same_front, FirstLike}

module _ (places : List ℕ) (literals : List ℤ) (i : ℕ) where
  pub behind_end : (kept : Bool) (zs : List ℤ) (n : ℕ) → n ≡ magnitude_at literals i → n ≡ 0
      → kept_behind places kept (get_or literals i (pos 0)) zs ≡ kept_from places zs
  behind_end kept zs n e z = rw (eq-eqb (magnitude_at literals i) 0 (sym e ∙ z)) refl

  pub behind_literal : (kept : Bool) (zs : List ℤ) (n : ℕ) → n ≡ magnitude_at literals i → (n ≡ 0 → ⊥)
      → kept_behind places kept (get_or literals i (pos 0)) zs ≡ kept
  behind_literal kept zs n e other = rw (ne_eqb (magnitude_at literals i) 0 (λ z. other (e ∙ z))) refl

-- ---- the same first bits

beq_same : (b : Bool) → beq b b ≡ true
beq_same true = refl
beq_same false = refl

beq_other : (a b : Bool) → (a ≡ b → ⊥) → beq a b ≡ false
beq_other true true other = absurd (other refl)
beq_other true false other = refl
beq_other false true other = refl
beq_other false false other = absurd (other refl)

and_false_left : (a b : Bool) → a ≡ false → (a && b) ≡ false
and_false_left a b e = rw e refl

module _ (table : List ℕ) (j i : ℕ) where
  abbrev bit_there : ℕ → ℕ → Bool
  bit_there row k = bit_of (row_at table row) k

  stays_false : (k m : ℕ) → k ≤ m → same_front table j i k ≡ false → same_front table j i m ≡ false
  stays_false k zero h e = let z : k ≡ 0 = omega arith in subst (λ n. same_front table j i n ≡ false) z e
  stays_false k (suc m) h e = go (le_or k m h) (λ less. stays_false k m less e)
    where
      le_or : (k m : ℕ) → k ≤ suc m → (k ≡ suc m) ⊎ (k ≤ m)
      le_or zero m h = inr (omega arith)
      le_or (suc k) zero h = inl (omega arith)
      le_or (suc k) (suc m) h = ⊎_elim (λ (e : k ≡ suc m). inl (ap suc e)) (λ (l : k ≤ m). inr (omega arith)) (le_or k m (omega arith))

      go : (k ≡ suc m) ⊎ (k ≤ m) → (k ≤ m → same_front table j i m ≡ false) → same_front table j i (suc m) ≡ false
      go (inl same) more = subst (λ n. same_front table j i n ≡ false) same e
      go (inr less) more = and_false_left (same_front table j i m) (beq (bit_there j m) (bit_there i m)) (more less)

  pub parts : (k m : ℕ) → k < m → (bit_there j k ≡ bit_there i k → ⊥) → same_front table j i m ≡ false
  parts k m below other =
      let here : same_front table j i (suc k) ≡ false = go (same_front table j i k) in
      stays_false (suc k) m below here
    where
      go : (b : Bool) → (b && beq (bit_there j k) (bit_there i k)) ≡ false
      go true = beq_other (bit_there j k) (bit_there i k) other
      go false = refl

-- A test on both bits, whatever form it has: it tells equal ones from unequal ones.
pub differ_so : (f : Bool → Bool → Bool) → (f true true ≡ false) → (f false false ≡ false) → (a b : Bool) → f a b ≡ true → a ≡ b → ⊥
differ_so f t u true true e g = true≢false (sym e ∙ t)
differ_so f t u false false e g = true≢false (sym e ∙ u)
differ_so f t u true false e g = true≢false g
differ_so f t u false true e g = false≢true g

pub same_itself : (table : List ℕ) (i m : ℕ) → same_front table i i m ≡ true
same_itself table i zero = refl
same_itself table i (suc m) = rw (same_itself table i m, beq_same (bit_of (row_at table i) m)) refl

-- The rows before j are unlike row i.
abbrev pub UnlikeBelow : List ℕ → ℕ → ℕ → ℕ → Type 0
UnlikeBelow table i m j = (q : ℕ) → q < j → same_front table q i m ≡ false

pub found_itself : (table : List ℕ) (i m j : ℕ) → i ≤ j → UnlikeBelow table i m j → FirstLike table i m i
found_itself table i m j past before =
    record { inside = omega arith; like = same_itself table i m; none_before = λ q below. before q (omega arith) }
