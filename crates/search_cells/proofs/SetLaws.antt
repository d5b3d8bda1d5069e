-- The cells at a position of neighbouring rows, set row by row. Assumes nothing.
use Prim.Native.Nat.{ℕ, ◌+◌, ◌-◌, ◌*◌, ◌/◌, ◌≤◌, ◌<◌}
use mathlib.Core.Path.{◌≡◌, ap, ◌∙◌, subst, sym}
use mathlib.Core.Bool.{Bool}
use mathlib.Core.List.{List}
use native.Mathlib.Omega.{arith}
use lib.ListN.{length, get_or, set, length-set}
use borrow.Author.Tests.{lt-ltb}
use Rattle.search_cells.specs.Cells.{flags as flags_from}
use Rattle.formula.specs.Formula.{work_size, max_rows, max_unknowns}
use Rattle.rows.specs.Row.{weight}
use Rattle.search_cells.specs.Steps.{steps, with_cell, rows_set}
use Rattle.search_cells.specs.Private.Changes.{CellsSet}
use Rattle.search_cells.proofs.CellLaws.{spot_in, level_stored, value_stored, cell_set, cells_set_none, cells_set_more}
use Rattle.search_cells.proofs.StepLaws.{sizes_fit, steps_reach}

-- ---- one cell

module _ (i k level : ℕ) (value : Bool) (w : List ℕ) where
  pub length_with_cell : length (with_cell i k level value w) ≡ length w
  unfolding with_cell
  length_with_cell = simp length-set

  module _ (hi : i < max_rows) (hk : k < max_unknowns) where
    pub with_cell_stored : value_stored (level_stored w i k level) i k value ≡ with_cell i k level value w
    unfolding with_cell
    with_cell_stored =
        ap (λ (x : ℕ). set (set w x level) (flags_from + x) (get_or (set w x level) (flags_from + x) 0 / 2 * 2 + weight value)) (sym (spot_in i k hi hk))

    pub cells_set_one : length w ≡ work_size → CellsSet k i (i + 1) level value w (with_cell i k level value w)
    cells_set_one area = subst (CellsSet k i (i + 1) level value w) with_cell_stored (cell_set i k hi hk w area level value)

-- ---- row by row

module _ (k lo hi level : ℕ) (value : Bool) (w : List ℕ) (area : length w ≡ work_size) (small : k < max_unknowns) (most : hi ≤ max_rows) where
  pub rows_set_inside : rows_set k lo hi level value w ≡ steps (λ i. with_cell i k level value) (hi - lo) lo w
  unfolding rows_set
  rows_set_inside = rw (sizes_fit (length w) 0 hi area (omega arith) most, lt-ltb k max_unknowns small)

  module _ (order : lo ≤ hi) where
    abbrev SetBelow : ℕ → List ℕ → Type 0
    SetBelow i u = (length u ≡ work_size) × CellsSet k lo i level value w u

    all_set : SetBelow hi (rows_set k lo hi level value w)
    all_set =
        subst (SetBelow hi) (sym rows_set_inside)
        (steps_reach (λ i. with_cell i k level value) SetBelow lo hi
        (λ i u low less p. (
          length_with_cell i k level value u ∙ p.0,
          cells_set_more k lo i level value w u (with_cell i k level value u) low p.1
              (cells_set_one i k level value u (omega arith) small p.0),
        ))
        w order (area, cells_set_none k lo level value w))

    pub rows_are_set : CellsSet k lo hi level value w (rows_set k lo hi level value w)
    rows_are_set = all_set.1
