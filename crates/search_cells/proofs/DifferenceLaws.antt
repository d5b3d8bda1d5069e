-- Where neighbouring rows of the table differ first, as the code finds it. Assumes nothing.
use Prim.Native.Nat.{ℕ, zero, suc, ◌+◌, ◌-◌, ◌≤◌, ◌<◌}
use mathlib.Core.Path.{◌≡◌, refl, sym, ap, ◌∙◌, subst}
use mathlib.Core.Logic.{◌≢◌}
use mathlib.Core.Bool.{Bool, true, false, not, ◌&&◌, cond, beq, true≢false}
use mathlib.Core.List.{List}
use native.Mathlib.Decide.{ℕ_discrete}
use native.Mathlib.Omega.{arith}
use borrow.Author.Tests.{not-true, eq-eqb, ne_eqb}
use lib.Dec.{eqb}
use lib.ListN.{length, get_or, length-set}
use lib.Seq.{get_or-set_same, get_or-set_other}
use Rattle.formula.specs.Formula.{work_size, max_rows, max_unknowns}
use Rattle.search_cells.specs.Cells.{cells, owned}
use Rattle.search_cells.specs.Steps.{steps, first_from, differ, first_difference, with_split, rows_compared}
use Rattle.search_cells.specs.Private.Changes.{FirstDifference}
use Rattle.search_cells.proofs.OwnedLaws.{owned_at}
use Rattle.search_cells.proofs.StepLaws.{both, sizes_fit, steps_all, steps_reach}

-- ---- the first place, as a loop finds it

module _ (f : ℕ → Bool) where
  pub first_from_step : (at hi : ℕ) (b : Bool) → at < hi → f at ≡ b
      → first_from f at (hi - at) ≡ cond b at (first_from f (at + 1) (hi - (at + 1)))
  first_from_step at hi b below e =
      let left : hi - at ≡ suc (hi - (at + 1)) = omega arith in
      ap (first_from f at) left ∙ ap (λ (t : Bool). cond t at (first_from f (at + 1) (hi - (at + 1)))) e

  pub first_from_end : (at hi : ℕ) → hi ≤ at → first_from f at (hi - at) ≡ at
  first_from_end at hi past = let none : hi - at ≡ 0 = omega arith in ap (first_from f at) none

-- ---- two rows

unlike : (a b : Bool) → not (beq a b) ≡ true → a ≢ b
unlike true false e = true≢false
unlike false true e = λ q. true≢false (sym q)
unlike true true e = absurd (true≢false (sym e))
unlike false false e = absurd (true≢false (sym e))

alike : (t a b : Bool) → not t && not (beq a b) ≡ false → t ≡ false → a ≡ b
alike true a b e o = absurd (true≢false o)
alike false true true e o = refl
alike false false false e o = refl
alike false true false e o = absurd (true≢false e)
alike false false true e o = absurd (true≢false e)

module _ (kinds : List ℕ) (side : ℕ) (w : List ℕ) (i : ℕ) where
  -- The test, as the code makes it.
  module _ (k : ℕ) where
    pub differ_own : get_or kinds k 0 ≡ side → differ kinds side w i k ≡ false
    unfolding differ
    differ_own own = rw (eq-eqb (get_or kinds k 0) side own)

    pub differ_other : (a b : Bool) → (get_or kinds k 0 ≡ side → ⊥) → a ≡ (cells w).value i k → b ≡ (cells w).value (i + 1) k
        → differ kinds side w i k ≡ not (beq a b)
    unfolding differ
    differ_other a b other p q = rw (ne_eqb (get_or kinds k 0) side other, p, q)

  -- The rows have the same values at the other side's positions before k.
  abbrev SameBefore : ℕ → Type 0
  SameBefore k = (j : ℕ) → j < k → get_or (owned kinds side) j false ≡ false → (cells w).value i j ≡ (cells w).value (i + 1) j

  same_more : (k : ℕ) → k < length kinds → SameBefore k → differ kinds side w i k ≡ false → SameBefore (k + 1)
  unfolding differ
  same_more k inside same e j less other = go (ℕ_discrete j k)
    where
      go : Dec (j ≡ k) → (cells w).value i j ≡ (cells w).value (i + 1) j
      go (yes q) =
          let here : eqb (get_or kinds k 0) side ≡ false = sym (owned_at kinds side k inside) ∙ ap (λ (x : ℕ). get_or (owned kinds side) x false) (sym q) ∙ other in
          subst (λ (x : ℕ). (cells w).value i x ≡ (cells w).value (i + 1) x) (sym q)
          (alike (eqb (get_or kinds k 0) side) ((cells w).value i k) ((cells w).value (i + 1) k) e here)
      go (no d) = same j (omega arith) other

  found : (k : ℕ) → k < length kinds → SameBefore k → differ kinds side w i k ≡ true → FirstDifference kinds side w i k
  unfolding differ
  found k inside same e =
      let t = both (not (eqb (get_or kinds k 0) side)) (not (beq ((cells w).value i k) ((cells w).value (i + 1) k))) e in
      record {
        most = omega arith;
        same = same;
        other = λ h. owned_at kinds side k inside ∙ not-true (eqb (get_or kinds k 0) side) t.0;
        unlike = λ h. unlike ((cells w).value i k) ((cells w).value (i + 1) k) t.1;
      }

  search_on : (n k : ℕ) → k + n ≡ length kinds → SameBefore k → FirstDifference kinds side w i (first_from (differ kinds side w i) k n)
  search_on zero k end same = record { most = omega arith; same = same; other = λ h. absurd (omega arith); unlike = λ h. absurd (omega arith) }
  search_on (suc n) k end same = go (differ kinds side w i k) refl (λ e. search_on n (k + 1) (omega arith) (same_more k (omega arith) same e))
    where
      go : (t : Bool) → differ kinds side w i k ≡ t
          → (differ kinds side w i k ≡ false → FirstDifference kinds side w i (first_from (differ kinds side w i) (k + 1) n))
          → FirstDifference kinds side w i (cond t k (first_from (differ kinds side w i) (k + 1) n))
      go true e next = found k (omega arith) same e
      go false e next = next e

  pub first_difference_found : FirstDifference kinds side w i (first_difference kinds side w i)
  first_difference_found = search_on (length kinds) 0 (omega arith) (λ j h. absurd (omega arith))

-- ---- row by row

module _ (kinds w : List ℕ) (count side : ℕ) (differences : List ℕ) (area : length w ≡ work_size) (few : length kinds ≤ max_unknowns) (most : count ≤ max_rows)
    (room : length differences ≡ max_rows) where
  pub rows_compared_inside : rows_compared kinds w count side differences ≡ steps (with_split kinds side w) (count - 1) 0 differences
  unfolding rows_compared
  rows_compared_inside = rw (sizes_fit (length w) (length kinds) count area few most, eq-eqb (length differences) max_rows room)

  abbrev ComparedBelow : ℕ → List ℕ → Type 0
  ComparedBelow i u = (length u ≡ max_rows) × ((j : ℕ) → j < i → FirstDifference kinds side w j (get_or u (j + 1) 0))

  compared_more : (i : ℕ) (u : List ℕ) → i < count - 1 → ComparedBelow i u → ComparedBelow (i + 1) (with_split kinds side w i u)
  compared_more i u less p = (length-set u (i + 1) (first_difference kinds side w i) ∙ p.0, λ j l. go j l (ℕ_discrete j i))
    where
      go : (j : ℕ) → j < i + 1 → Dec (j ≡ i) → FirstDifference kinds side w j (get_or (with_split kinds side w i u) (j + 1) 0)
      go j l (yes e) =
          let long = p.0 in
          rw (e, get_or-set_same u (i + 1) (first_difference kinds side w i) 0 (omega arith)) (first_difference_found kinds side w i)
      go j l (no d) =
          subst (FirstDifference kinds side w j) (sym (get_or-set_other u (i + 1) (j + 1) (first_difference kinds side w i) 0 (omega arith)))
          (p.1 j (omega arith))

  all_compared : ComparedBelow (count - 1) (rows_compared kinds w count side differences)
  all_compared =
      subst (ComparedBelow (count - 1)) (sym (rows_compared_inside ∙ steps_all (with_split kinds side w) (count - 1) differences))
      (steps_reach (with_split kinds side w) ComparedBelow 0 (count - 1) (λ i u low less p. compared_more i u less p) differences (omega arith)
      (room, λ j h. absurd (omega arith)))

  pub rows_are_compared : (i : ℕ) → i + 1 < count → FirstDifference kinds side w i (get_or (rows_compared kinds w count side differences) (i + 1) 0)
  rows_are_compared i h = all_compared.1 i (omega arith)
