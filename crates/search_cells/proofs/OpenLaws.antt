-- Cells opened byte by byte: levels over a bound become 0 in a run of bytes, which is the rows' run of cells.
-- Assumes nothing.
use Prim.Native.Nat.{ℕ, ◌+◌, ◌-◌, ◌*◌, ◌≤◌, ◌<◌}
use mathlib.Core.Path.{◌≡◌, refl, sym, ap, ◌∙◌, subst}
use mathlib.Core.Logic.{⊎_elim}
use mathlib.Core.List.{List}
use native.Mathlib.Omega.{arith}
use native.Mathlib.Decide.{ℕ_discrete, dec_le, dec_lt}
use lib.ListN.{length, get_or, set, length-set, get_or-eq_default}
use lib.Seq.{get_or-set_same, get_or-set_other}
use borrow.Author.Tests.{le-leb, lt-leb}
use Rattle.formula.specs.Formula.{work_size, max_rows, max_unknowns}
use Rattle.search_cells.specs.Cells.{flags as flags_from, spot, cells}
use Rattle.search_cells.specs.Steps.{steps, bounded, with_bounded, rows_opened}
use Rattle.search_cells.specs.Private.Changes.{CellsOpened}
use Rattle.search_cells.proofs.CellLaws.{flags, spot_cases, value_same, wants_same}
use Rattle.search_cells.proofs.StepLaws.{sizes_fit, steps_reach}

bounded_low : (bound level : ℕ) → level ≤ bound → bounded bound level ≡ level
bounded_low bound level h = rw (le-leb level bound h)

bounded_high : (bound level : ℕ) → bound < level → bounded bound level ≡ 0
bounded_high bound level h = rw (lt-leb level bound h)

-- The bytes from `from` to `to` are bounded, the others stay.
record BytesBounded (bound from to : ℕ) (w u : List ℕ) : Type 0 where
  there : (x : ℕ) → from ≤ x → x < to → get_or u x 0 ≡ bounded bound (get_or w x 0)
  elsewhere : (x : ℕ) → ((from ≤ x) × (x < to) → ⊥) → get_or u x 0 ≡ get_or w x 0

bytes_bounded_none : (bound from : ℕ) (w : List ℕ) → BytesBounded bound from from w w
bytes_bounded_none bound from w = record { there = λ x low high. absurd (omega arith); elsewhere = λ x out. refl }

bytes_bounded_more : (bound from at : ℕ) (w u : List ℕ) → from ≤ at → at < length u → BytesBounded bound from at w u
    → BytesBounded bound from (at + 1) w (set u at (bounded bound (get_or u at 0)))
bytes_bounded_more bound from at w u low_at inside b = record {
  there = λ x low high. there x low high (ℕ_discrete x at);
  elsewhere = λ x out.
      get_or-set_other u at x (bounded bound (get_or u at 0)) 0 (λ e. out (omega arith, omega arith))
      ∙ b.elsewhere x (λ t. let p = t.1 in out (t.0, omega arith));
}
  where
    there : (x : ℕ) → from ≤ x → x < at + 1 → Dec (x ≡ at) → get_or (set u at (bounded bound (get_or u at 0))) x 0 ≡ bounded bound (get_or w x 0)
    there x low high (yes e) =
        rw e (get_or-set_same u at (bounded bound (get_or u at 0)) 0 inside ∙ ap (bounded bound) (b.elsewhere at (λ t. let p = t.1 in omega arith)))
    there x low high (no n) = get_or-set_other u at x (bounded bound (get_or u at 0)) 0 n ∙ b.there x low (omega arith)

-- The bytes of the rows lo to hi bounded: the cells with a level over the bound are open.
module _ (bound lo hi : ℕ) (w u : List ℕ) (most : hi ≤ max_rows) (area : length w ≡ work_size) (b : BytesBounded bound (max_unknowns * lo) (max_unknowns * hi) w
    u) where
  flags_stay : (i j : ℕ) → flags u i j ≡ flags w i j
  flags_stay i j = b.elsewhere (flags_from + spot i j) (λ t. let p = t.1 in omega arith)

  high : (i j : ℕ) → lo ≤ i → i < hi → bound + 1 ≤ (cells w).level i j → (cells u).level i j ≡ 0
  unfolding cells
  high i j low less over = ⊎_elim at_cell no_cell (spot_cases i j)
    where
      at_cell : (i < max_rows) × (j < max_unknowns) × (spot i j ≡ max_unknowns * i + j) → get_or u (spot i j) 0 ≡ 0
      at_cell t =
          let p = t.1 in
          let e = t.2 in
          b.there (spot i j) (omega arith) (omega arith) ∙ bounded_high bound (get_or w (spot i j) 0) (omega arith)

      no_cell : spot i j ≡ work_size → get_or u (spot i j) 0 ≡ 0
      no_cell e = absurd (omega (arith, get_or-eq_default w 0 {n = spot i j} (omega arith)))

  level_stays : (i j : ℕ) → ((lo ≤ i) × (i < hi) × (bound + 1 ≤ (cells w).level i j) → ⊥) → (cells u).level i j ≡ (cells w).level i j
  unfolding cells
  level_stays i j out = ⊎_elim at_cell no_cell (spot_cases i j)
    where
      no_cell : spot i j ≡ work_size → get_or u (spot i j) 0 ≡ get_or w (spot i j) 0
      no_cell e = b.elsewhere (spot i j) (λ t. let p = t.1 in omega arith)

      at_cell : (i < max_rows) × (j < max_unknowns) × (spot i j ≡ max_unknowns * i + j) → get_or u (spot i j) 0 ≡ get_or w (spot i j) 0
      at_cell t = go (dec_le lo i) (dec_lt i hi) (dec_le (get_or w (spot i j) 0) bound)
        where
          go : Dec (lo ≤ i) → Dec (i < hi) → Dec (get_or w (spot i j) 0 ≤ bound) → get_or u (spot i j) 0 ≡ get_or w (spot i j) 0
          go (yes p) (yes q) (yes r) =
              let small = t.1 in
              let e = t.2 in
              b.there (spot i j) (omega arith) (omega arith) ∙ bounded_low bound (get_or w (spot i j) 0) r
          go (yes p) (yes q) (no r) = absurd (out (p, q, omega arith))
          go (yes p) (no q) d = let small = t.1 in let e = t.2 in b.elsewhere (spot i j) (λ s. let x = s.1 in omega arith)
          go (no p) c d = let small = t.1 in let e = t.2 in b.elsewhere (spot i j) (λ s. let x = s.0 in omega arith)

  cells_opened : CellsOpened lo hi bound w u
  cells_opened = record {
    cleared = record { high = high; low = λ i j out. (level_stays i j out, value_same w u i j (flags_stay i j)) };
    wanted = λ i j. wants_same w u i j (flags_stay i j);
  }

-- ---- byte by byte

module _ (lo hi bound : ℕ) (w : List ℕ) (area : length w ≡ work_size) (most : hi ≤ max_rows) where
  pub rows_opened_inside : rows_opened lo hi bound w ≡ steps (with_bounded bound) (max_unknowns * hi - max_unknowns * lo) (max_unknowns * lo) w
  unfolding rows_opened
  rows_opened_inside = rw (sizes_fit (length w) 0 hi area (omega arith) most)

  module _ (order : lo ≤ hi) where
    abbrev BoundedBelow : ℕ → List ℕ → Type 0
    BoundedBelow at u = (length u ≡ work_size) × BytesBounded bound (max_unknowns * lo) at w u

    all_bounded : BoundedBelow (max_unknowns * hi) (rows_opened lo hi bound w)
    all_bounded =
        subst (BoundedBelow (max_unknowns * hi)) (sym rows_opened_inside)
        (steps_reach (with_bounded bound) BoundedBelow (max_unknowns * lo) (max_unknowns * hi)
        (λ at u low less p.
        let long = p.0 in (length-set u at (bounded bound (get_or u at 0)) ∙ p.0, bytes_bounded_more bound (max_unknowns * lo) at w u low (omega arith) p.1))
        w (omega arith) (area, bytes_bounded_none bound (max_unknowns * lo) w))

    pub rows_are_opened : CellsOpened lo hi bound w (rows_opened lo hi bound w)
    rows_are_opened = cells_opened bound lo hi w (rows_opened lo hi bound w) most area all_bounded.1
