-- What the bytes of a row say of the literal of code c, and when there is a row. Assumes nothing.
use Prim.Native.Nat.{ℕ, ◌+◌, ◌*◌, ◌<◌}
use mathlib.Core.Path.{◌≡◌, sym, ap, ◌∙◌}
use mathlib.Core.Bool.{true, and-eq-true_iff}
use mathlib.Core.List.{List}
use lib.Dec.{ltb, eqb}
use lib.ListN.{length, get_or}
use borrow.Author.Tests.{ltb-true, eqb-true}
use Rattle.formula.specs.Formula.{work_size, max_rows, max_unknowns}
use Rattle.preference.specs.Preference.{odd}
use Rattle.search_cells.specs.Cells.{flags as flags_from, cells}
use Rattle.search_cells.proofs.CellLaws.{level_at, value_at}
use Rattle.codes.specs.Codes.{row_position}
use Rattle.search_evaluation.specs.Evaluation.{has_row, is_set}

pub row_given : (w : List ℕ) (i : ℕ) → has_row w i ≡ true → (length w ≡ work_size) × (i < max_rows)
row_given w i e =
    let both = (and-eq-true_iff (eqb (length w) work_size) (ltb i max_rows)).0 e in
    (eqb-true (length w) work_size both.0, ltb-true i max_rows both.1)

module _ (w : List ℕ) (i c k : ℕ) (row : i < max_rows) (is : (k ≡ row_position c) × (k < max_unknowns)) where
  pub set_by : ltb 0 (get_or w (max_unknowns * i + k) 0) ≡ is_set w i c
  unfolding is_set
  set_by = ap (ltb 0) (sym (level_at i k row is.1 w)) ∙ ap (λ (x : ℕ). ltb 0 ((cells w).level i x)) is.0

  pub value_by : odd (get_or w (flags_from + (max_unknowns * i + k)) 0) ≡ (cells w).value i (row_position c)
  value_by = sym (value_at i k row is.1 w) ∙ ap ((cells w).value i) is.0
