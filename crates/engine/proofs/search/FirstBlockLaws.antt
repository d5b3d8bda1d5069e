-- What is read of a known row, and what it rules out. Assumes nothing.
use Prim.Native.Nat.{ℕ, ◌≤◌, ◌<◌}
use mathlib.Core.Path.{◌≡◌, ◌∙◌, ap}
use mathlib.Core.List.{List}
use native.Mathlib.Omega.{arith}
use lib.Dec.{eqb}
use lib.ListN.{length, get_or, take}
use lib.Seq.{get_or-take, length-take-le}
use Rattle.rows.specs.Row.{bit_of}
use Rattle.rows.specs.Table.{row_at}
use Rattle.search_cells.specs.Cells.{cells}
use Rattle.engine.specs.Private.FirstBlock.{said, Reads}

-- ---- what is ruled out

abbrev pub Before : List ℕ → List ℕ → ℕ → ℕ → Type 0
Before block w i k = (j : ℕ) → j < k → said block j ≡ (cells w).value i j

-- ---- what is read

pub record Read (kinds own : List ℕ) (row side : ℕ) (block : List ℕ) (k : ℕ) : Type 0 where
  pub inside : k ≤ length kinds
  pub of_side : (j : ℕ) → j < k → get_or kinds j 0 ≡ side
  pub values : (j : ℕ) → j < k → said block j ≡ bit_of (row_at own row) j

-- The part of the table that is in use.
pub reads_taken : (kinds own : List ℕ) (known side : ℕ) (block : List ℕ) (n : ℕ) → n ≤ length block → Reads kinds own known side block n
    → Reads kinds own known side (take n block) (length (take n block))
reads_taken kinds own known side block n room r =
    let size : length (take n block) ≡ n = length-take-le n block room in
    record {
      inside = omega (arith, r.inside);
      some_known = λ h. r.some_known (omega arith);
      of_side = λ j lt. r.of_side j (omega arith);
      values = λ j lt. ap (λ (x : ℕ). eqb x 1) (get_or-take n block j 0 (omega arith)) ∙ r.values j (omega arith);
    }
