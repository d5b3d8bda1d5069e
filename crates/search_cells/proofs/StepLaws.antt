-- Steps one after another, as a loop takes them and as a proof by induction follows them; and the sizes under which they are taken.
-- Assumes nothing.
use Prim.Native.Nat.{ℕ, zero, suc, ◌+◌, ◌-◌, ◌≤◌, ◌<◌}
use mathlib.Core.Path.{◌≡◌, refl, sym, ap, ◌∙◌, subst}
use mathlib.Core.Bool.{Bool, true, false, ◌&&◌, true≢false}
use mathlib.Core.List.{List}
use native.Mathlib.Numerals.{add-one}
use native.Mathlib.Omega.{arith}
use lib.Dec.{eqb, leb}
use borrow.Author.Tests.{eq-eqb, eqb-true, le-leb, leb-true}
use Rattle.formula.specs.Formula.{work_size, max_rows, max_unknowns}
use Rattle.search_cells.specs.Steps.{steps, fits}

-- ---- the sizes

pub both : (a b : Bool) → a && b ≡ true → (a ≡ true) × (b ≡ true)
both true true e = (refl, refl)
both true false e = absurd (true≢false (sym e))
both false b e = absurd (true≢false (sym e))

module _ (area positions rows : ℕ) where
  pub sizes_fit : area ≡ work_size → positions ≤ max_unknowns → rows ≤ max_rows → fits area positions rows ≡ true
  unfolding fits
  sizes_fit a p r = rw (eq-eqb area work_size a, le-leb positions max_unknowns p, le-leb rows max_rows r)

  pub fitting_sizes : fits area positions rows ≡ true → (area ≡ work_size) × (positions ≤ max_unknowns) × (rows ≤ max_rows)
  unfolding fits
  fitting_sizes e =
      let last = both (eqb area work_size && leb positions max_unknowns) (leb rows max_rows) e in
      let first = both (eqb area work_size) (leb positions max_unknowns) last.0 in
      (eqb-true area work_size first.0, leb-true positions max_unknowns first.1, leb-true rows max_rows last.1)

-- ---- the steps

module _ (step : ℕ → List ℕ → List ℕ) where
  pub steps_none : (hi i : ℕ) (w : List ℕ) → hi ≤ i → steps step (hi - i) i w ≡ w
  steps_none hi i w past = let none : hi - i ≡ 0 = omega arith in ap (λ (n : ℕ). steps step n i w) none

  pub steps_next : (hi i : ℕ) (w : List ℕ) → i < hi → steps step (hi - i) i w ≡ steps step (hi - (i + 1)) (i + 1) (step i w)
  steps_next hi i w less =
      let more : hi - i ≡ suc (hi - (i + 1)) = omega arith in
      ap (λ (n : ℕ). steps step n i w) more ∙ ap (λ (j : ℕ). steps step (hi - (i + 1)) j (step i w)) (sym (add-one i))

  pub steps_all : (n : ℕ) (w : List ℕ) → steps step n 0 w ≡ steps step (n - 0) 0 w
  steps_all n w = let all : n ≡ n - 0 = omega arith in ap (λ (m : ℕ). steps step m 0 w) all

  -- What each step takes from i to i + 1, all of them take from lo to hi.
  module _ (P : ℕ → List ℕ → Type 0) (lo hi : ℕ) (turn : (i : ℕ) (u : List ℕ) → lo ≤ i → i < hi → P i u → P (i + 1) (step i u)) where
    by_turns : (n i : ℕ) (u : List ℕ) → lo ≤ i → i + n ≡ hi → P i u → P hi (steps step n i u)
    by_turns zero i u low end p = let last : i ≡ hi = omega arith in subst (λ (j : ℕ). P j u) last p
    by_turns (suc n) i u low end p =
        by_turns n (suc i) (step i u) (omega arith) (omega arith)
        (subst (λ (j : ℕ). P j (step i u)) (add-one i) (turn i u low (omega arith) p))

    pub steps_reach : (w : List ℕ) → lo ≤ hi → P lo w → P hi (steps step (hi - lo) lo w)
    steps_reach w order p = by_turns (hi - lo) lo w (omega arith) (omega arith) p
