-- An accepted file's rows of the side that is asked for, and where they begin.
-- Assumes nothing.
use Prim.Native.Nat.{ℕ}
use mathlib.Core.Path.{◌≡◌, sym, ap, ◌∙◌}
use mathlib.Core.Bool.{Bool}
use mathlib.Core.List.{List, []}
use borrow.Author.Tests.{eq-eqb}
use Rattle.witness.specs.File.{file_cause, side_rows, rows_back, side_start, rows_start}
use Rattle.witness.proofs.TestLaws.{stop}

module _ (f : List ℕ) (universal side : Bool) (none : file_cause f ≡ 0) (asked : universal ≡ side) where
  pub accepted_rows : side_rows side f ≡ rows_back f universal
  unfolding rows_back
  accepted_rows = sym (stop [] (eq-eqb (file_cause f) 0 none) ∙ ap (λ (u : Bool). side_rows u f) asked)

  pub accepted_start : side_start side f ≡ rows_start f universal
  unfolding rows_start
  accepted_start = sym (stop 0 (eq-eqb (file_cause f) 0 none) ∙ ap (λ (u : Bool). side_start u f) asked)
