-- The cells of lent rows, filled position by position and row by row. Assumes nothing.
use Prim.Native.Nat.{ℕ, ◌+◌, ◌-◌, ◌≤◌, ◌<◌}
use mathlib.Core.Path.{◌≡◌, refl, sym, ap, ◌∙◌, subst}
use mathlib.Core.Bool.{Bool, true, false}
use mathlib.Core.List.{List}
use native.Mathlib.Omega.{arith}
use native.Mathlib.Decide.{ℕ_discrete}
use lib.ListN.{length, get_or}
use borrow.Author.Tests.{eq-eqb, ne_eqb}
use Rattle.formula.specs.Formula.{work_size, max_rows, max_unknowns}
use Rattle.rows.specs.Row.{bit_of}
use Rattle.rows.specs.Table.{row_at}
use Rattle.expansion.specs.Cells.{others_before}
use Rattle.search_cells.specs.Cells.{cells, owned}
use Rattle.search_cells.specs.Steps.{steps, with_cell, with_given, with_given_row, rows_filled}
use Rattle.search_cells.specs.Private.Changes.{CellsSet, RowFilled, Filled}
use Rattle.search_cells.proofs.OwnedLaws.{owned_at, length_owned, others_before_own, others_before_other}
use Rattle.search_cells.proofs.StepLaws.{sizes_fit, steps_all, steps_next, steps_reach}
use Rattle.search_cells.proofs.SetLaws.{length_with_cell, cells_set_one}

abbrev SameAt : List ℕ → List ℕ → ℕ → ℕ → Type 0
SameAt w u h k = ((cells u).level h k ≡ (cells w).level h k) × ((cells u).value h k ≡ (cells w).value h k)

same_at_trans : (w u x : List ℕ) (h k : ℕ) → SameAt w u h k → SameAt u x h k → SameAt w x h k
same_at_trans w u x h k a b = (b.0 ∙ a.0, b.1 ∙ a.1)

-- Row `row` of the lent rows stands in the cell (i, k).
abbrev Holds : List ℕ → List ℕ → ℕ → ℕ → ℕ → List ℕ → ℕ → Type 0
Holds kinds rows row i side u k = ((cells u).level i k ≡ 1) × ((cells u).value i k ≡ bit_of (row_at rows row) (others_before (owned kinds side) k))

holds_still : (kinds rows : List ℕ) (row i side : ℕ) (u x : List ℕ) (k : ℕ) → SameAt u x i k → Holds kinds rows row i side u k → Holds kinds rows row i side x k
holds_still kinds rows row i side u x k s t = (s.0 ∙ t.0, s.1 ∙ t.1)

-- ---- position by position

-- The row is filled at the positions below n.
record RowFilledBelow (kinds rows : List ℕ) (row i side n : ℕ) (w u : List ℕ) : Type 0 where
  there : (k : ℕ) → k < n → get_or (owned kinds side) k false ≡ false
      → ((cells u).level i k ≡ 1) × ((cells u).value i k ≡ bit_of (row_at rows row) (others_before (owned kinds side) k))
  elsewhere : (h k : ℕ) → ((h ≡ i) × (k < n) × (get_or (owned kinds side) k false ≡ false) → ⊥)
      → ((cells u).level h k ≡ (cells w).level h k) × ((cells u).value h k ≡ (cells w).value h k)

module _ (kinds rows : List ℕ) (row i side : ℕ) (w : List ℕ) where
  row_filled_none : RowFilledBelow kinds rows row i side 0 w w
  row_filled_none = record { there = λ k less other. absurd (omega arith); elsewhere = λ h k out. (refl, refl) }

  row_filled_whole : (u : List ℕ) → RowFilledBelow kinds rows row i side (length kinds) w u → RowFilled kinds rows row i side w u
  row_filled_whole u f = record { there = f.there; elsewhere = f.elsewhere }

  module _ (n : ℕ) (u : List ℕ) (f : RowFilledBelow kinds rows row i side n w u) where
    -- an own position stays
    row_filled_own : get_or (owned kinds side) n false ≡ true → RowFilledBelow kinds rows row i side (n + 1) w u
    row_filled_own own = record {
      there = λ k less other. f.there k (below k less other (ℕ_discrete k n)) other;
      elsewhere = λ h k out. f.elsewhere h k (λ t. let p = t.1 in out (t.0, omega arith, t.2));
    }
      where
        below : (k : ℕ) → k < n + 1 → get_or (owned kinds side) k false ≡ false → Dec (k ≡ n) → k < n
        below k less other (yes e) =
            let differs : true ≡ false = sym own ∙ ap (λ (x : ℕ). get_or (owned kinds side) x false) (sym e) ∙ other in
            let z : ◌≡◌ {A = ℕ} 0 1 = cc in
            absurd (omega arith)
        below k less other (no d) = omega arith

    -- another position is set
    row_filled_other : (x : List ℕ) → get_or (owned kinds side) n false ≡ false
        → CellsSet n i (i + 1) 1 (bit_of (row_at rows row) (others_before (owned kinds side) n)) u x
        → RowFilledBelow kinds rows row i side (n + 1) w x
    row_filled_other x other s = record { there = λ k less o. there k less o (ℕ_discrete k n); elsewhere = elsewhere }
      where
        there : (k : ℕ) → k < n + 1 → get_or (owned kinds side) k false ≡ false → Dec (k ≡ n) → Holds kinds rows row i side x k
        there k less o (yes e) = rw e (s.stored.there i (omega arith) (omega arith))
        there k less o (no d) = holds_still kinds rows row i side u x k (s.stored.elsewhere i k (λ t. d t.2)) (f.there k (omega arith) o)

        elsewhere : (h k : ℕ) → ((h ≡ i) × (k < n + 1) × (get_or (owned kinds side) k false ≡ false) → ⊥) → SameAt w x h k
        elsewhere h k out =
            same_at_trans w u x h k
            (f.elsewhere h k (λ t. let p = t.1 in out (t.0, omega arith, t.2)))
            (s.stored.elsewhere h k
            (λ t.
            let p = t.0 in
            let q = t.1 in
            let e = t.2 in
            out (omega arith, omega arith, ap (λ (y : ℕ). get_or (owned kinds side) y false) e ∙ other)))

-- All positions, one after another.
module _ (kinds rows : List ℕ) (side row i : ℕ) where
  -- One position: an own one stays, another one is set to its bit of the row, which is the number of such positions before it.
  given_own : (k : ℕ) (w : List ℕ) → get_or kinds k 0 ≡ side → with_given kinds rows side row i k w ≡ w
  unfolding with_given
  given_own k w own = rw (eq-eqb (get_or kinds k 0) side own)

  given_other : (k : ℕ) (w : List ℕ) → (get_or kinds k 0 ≡ side → ⊥)
      → with_given kinds rows side row i k w ≡ with_cell i k 1 (bit_of (row_at rows row) (others_before (owned kinds side) k)) w
  unfolding with_given
  given_other k w other = rw (ne_eqb (get_or kinds k 0) side other)

  length_with_given : (k : ℕ) (w : List ℕ) → length (with_given kinds rows side row i k w) ≡ length w
  length_with_given k w = go (ℕ_discrete (get_or kinds k 0) side)
    where
      go : Dec (get_or kinds k 0 ≡ side) → length (with_given kinds rows side row i k w) ≡ length w
      go (yes own) = ap length (given_own k w own)
      go (no other) = ap length (given_other k w other) ∙ length_with_cell i k 1 (bit_of (row_at rows row) (others_before (owned kinds side) k)) w

  pub given_row_steps : (w : List ℕ) → with_given_row kinds rows side row i w ≡ steps (with_given kinds rows side row i) (length kinds - 0) 0 w
  unfolding with_given_row
  given_row_steps w = steps_all (with_given kinds rows side row i) (length kinds) w

  module _ (few : length kinds ≤ max_unknowns) (place : i < max_rows) (w : List ℕ) (area : length w ≡ work_size) where
    abbrev GivenBelow : ℕ → List ℕ → Type 0
    GivenBelow k u = (length u ≡ work_size) × RowFilledBelow kinds rows row i side k w u

    given_more : (k : ℕ) (u : List ℕ) → k < length kinds → GivenBelow k u → GivenBelow (k + 1) (with_given kinds rows side row i k u)
    given_more k u less p = (length_with_given k u ∙ p.0, go (ℕ_discrete (get_or kinds k 0) side))
      where
        go : Dec (get_or kinds k 0 ≡ side) → RowFilledBelow kinds rows row i side (k + 1) w (with_given kinds rows side row i k u)
        go (yes same) =
            let own : get_or (owned kinds side) k false ≡ true = owned_at kinds side k less ∙ eq-eqb (get_or kinds k 0) side same in
            subst (RowFilledBelow kinds rows row i side (k + 1) w) (sym (given_own k u same)) (row_filled_own kinds rows row i side w k u p.1 own)
        go (no differs) =
            let other : get_or (owned kinds side) k false ≡ false = owned_at kinds side k less ∙ ne_eqb (get_or kinds k 0) side differs in
            let bit = bit_of (row_at rows row) (others_before (owned kinds side) k) in
            subst (RowFilledBelow kinds rows row i side (k + 1) w) (sym (given_other k u differs))
            (row_filled_other kinds rows row i side w k u p.1 (with_cell i k 1 bit u) other (cells_set_one i k 1 bit u place (omega arith) p.0))

    row_given : GivenBelow (length kinds) (with_given_row kinds rows side row i w)
    row_given =
        subst (GivenBelow (length kinds)) (sym (given_row_steps w))
        (steps_reach (with_given kinds rows side row i) GivenBelow 0 (length kinds) (λ k u low less p. given_more k u less p) w (omega arith)
        (area, row_filled_none kinds rows row i side w))

    length_given_row : length (with_given_row kinds rows side row i w) ≡ work_size
    length_given_row = row_given.0

    row_is_filled : RowFilled kinds rows row i side w (with_given_row kinds rows side row i w)
    row_is_filled = row_filled_whole kinds rows row i side w (with_given_row kinds rows side row i w) row_given.1

  -- A turn of the loop, which counts the bits.
  module _ (k bit : ℕ) (w : List ℕ) (inside : k < length kinds) (count : bit ≡ others_before (owned kinds side) k) where
    abbrev left_from : ℕ → List ℕ → List ℕ
    left_from j u = steps (with_given kinds rows side row i) (length kinds - j) j u

    pub turn_own : get_or kinds k 0 ≡ side → (bit ≡ others_before (owned kinds side) (k + 1)) × (left_from k w ≡ left_from (k + 1) w)
    turn_own same =
        let own : get_or (owned kinds side) k false ≡ true = owned_at kinds side k inside ∙ eq-eqb (get_or kinds k 0) side same in (
          count ∙ sym (others_before_own (owned kinds side) k own),
          steps_next (with_given kinds rows side row i) (length kinds) k w inside ∙ ap (left_from (k + 1)) (given_own k w same),
        )

    pub turn_other : (y : Bool) (x : List ℕ) → (get_or kinds k 0 ≡ side → ⊥) → y ≡ bit_of (row_at rows row) bit → x ≡ with_cell i k 1 y w
        → (bit + 1 ≡ others_before (owned kinds side) (k + 1)) × (left_from k w ≡ left_from (k + 1) x)
    turn_other y x differs given stored =
        let other : get_or (owned kinds side) k false ≡ false = owned_at kinds side k inside ∙ ne_eqb (get_or kinds k 0) side differs in
        let value : bit_of (row_at rows row) (others_before (owned kinds side) k) ≡ y = sym (given ∙ ap (bit_of (row_at rows row)) count) in (
          ap (λ (b : ℕ). b + 1) count ∙ sym (others_before_other (owned kinds side) k (omega (arith, length_owned kinds side)) other),
          steps_next (with_given kinds rows side row i) (length kinds) k w inside
              ∙ ap (left_from (k + 1)) (given_other k w differs ∙ ap (λ (v : Bool). with_cell i k 1 v w) value ∙ sym stored),
        )

-- ---- row by row

-- The rows below n are filled.
record FilledBelow (kinds rows place : List ℕ) (side n : ℕ) (w u : List ℕ) : Type 0 where
  there : (row k : ℕ) → row < n → k < length kinds → get_or (owned kinds side) k false ≡ false
      → ((cells u).level (get_or place row 0) k ≡ 1)
      × ((cells u).value (get_or place row 0) k ≡ bit_of (row_at rows row) (others_before (owned kinds side) k))
  elsewhere : (h k : ℕ) → ((k < length kinds) × (get_or (owned kinds side) k false ≡ false) → ⊥)
      → ((cells u).level h k ≡ (cells w).level h k) × ((cells u).value h k ≡ (cells w).value h k)
  unplaced : (h k : ℕ) → ((row : ℕ) → row < n → h ≡ get_or place row 0 → ⊥)
      → ((cells u).level h k ≡ (cells w).level h k) × ((cells u).value h k ≡ (cells w).value h k)

module _ (kinds rows place : List ℕ) (side : ℕ) (w : List ℕ) where
  filled_none : FilledBelow kinds rows place side 0 w w
  filled_none = record { there = λ row k less low other. absurd (omega arith); elsewhere = λ h k out. (refl, refl); unplaced = λ h k out. (refl, refl) }

  filled_whole : (u : List ℕ) → FilledBelow kinds rows place side (length place) w u → Filled kinds rows place side w u
  filled_whole u f = record { there = f.there; elsewhere = f.elsewhere; unplaced = f.unplaced }

  filled_more : (n : ℕ) (u x : List ℕ) → n < length place
      → ((r q : ℕ) → r < length place → q < length place → get_or place r 0 ≡ get_or place q 0 → r ≡ q)
      → FilledBelow kinds rows place side n w u → RowFilled kinds rows n (get_or place n 0) side u x
      → FilledBelow kinds rows place side (n + 1) w x
  filled_more n u x inside apart f r = record {
    there = λ row k less low other. there row k less low other (ℕ_discrete row n);
    elsewhere = λ h k out. same_at_trans w u x h k (f.elsewhere h k out) (r.elsewhere h k (λ t. out (t.1, t.2)));
    unplaced = λ h k out.
        same_at_trans w u x h k
        (f.unplaced h k (λ row less. out row (omega arith)))
        (r.elsewhere h k (λ t. out n (omega arith) t.0));
  }
    where
      there : (row k : ℕ) → row < n + 1 → k < length kinds → get_or (owned kinds side) k false ≡ false → Dec (row ≡ n)
          → Holds kinds rows row (get_or place row 0) side x k
      there row k less low other (yes e) = rw e (r.there k low other)
      there row k less low other (no d) =
          holds_still kinds rows row (get_or place row 0) side u x k
          (r.elsewhere (get_or place row 0) k (λ t. d (apart row n (omega arith) inside t.0)))
          (f.there row k (omega arith) low other)

-- All rows, one after another.
abbrev pub row_step : List ℕ → List ℕ → List ℕ → ℕ → ℕ → List ℕ → List ℕ
row_step kinds rows place side r = with_given_row kinds rows side r (get_or place r 0)

module _ (kinds rows place : List ℕ) (side : ℕ) (w : List ℕ) (area : length w ≡ work_size) (few : length kinds ≤ max_unknowns) (most : length place ≤ max_rows)
  where
    pub rows_filled_inside : rows_filled kinds rows place side w ≡ steps (row_step kinds rows place side) (length place) 0 w
    unfolding rows_filled
    rows_filled_inside = rw (sizes_fit (length w) (length kinds) (length place) area few most)

    module _ (bytes : (r : ℕ) → r < length place → get_or place r 0 < 256) (apart : (r q : ℕ) → r < length place → q < length place → get_or place r 0 ≡ get_or place
        q
        0 → r ≡ q) where
      abbrev RowsBelow : ℕ → List ℕ → Type 0
      RowsBelow n u = (length u ≡ work_size) × FilledBelow kinds rows place side n w u

      rows_more : (n : ℕ) (u : List ℕ) → n < length place → RowsBelow n u → RowsBelow (n + 1) (row_step kinds rows place side n u)
      rows_more n u less p = (
        length_given_row kinds rows side n (get_or place n 0) few (bytes n less) u p.0,
        filled_more kinds rows place side w n u (row_step kinds rows place side n u) less apart p.1
            (row_is_filled kinds rows side n (get_or place n 0) few (bytes n less) u p.0),
      )

      rows_given : RowsBelow (length place) (rows_filled kinds rows place side w)
      rows_given =
          subst (RowsBelow (length place)) (sym (rows_filled_inside ∙ steps_all (row_step kinds rows place side) (length place) w))
          (steps_reach (row_step kinds rows place side) RowsBelow 0 (length place) (λ n u low less p. rows_more n u less p) w (omega arith)
          (area, filled_none kinds rows place side w))

      pub rows_are_filled : Filled kinds rows place side w (rows_filled kinds rows place side w)
      rows_are_filled = filled_whole kinds rows place side w (rows_filled kinds rows place side w) rows_given.1
