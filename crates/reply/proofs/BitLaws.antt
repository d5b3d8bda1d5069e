-- Rows that were not touched, and values by their places. Assumes nothing.
use Prim.Native.Nat.{ℕ, zero, suc, ◌+◌, ◌*◌, ◌/◌, ◌%◌, ◌^◌, ◌≤◌, ◌<◌}
use native.Mathlib.Decide.{dec_lt}
use native.Mathlib.Omega.{arith}
use mathlib.Core.Path.{◌≡◌, refl, sym, ap, ap₂, ◌∙◌}
use mathlib.Core.Bool.{Bool}
use mathlib.Core.List.{List, [], ◌∷◌, ◌++◌}
use lib.Bits.{bit_or}
use lib.ListN.{length, get_or}
use lib.Seq.{ext_get_or, get_or-set_other}
use Rattle.rows.specs.Row.{values, row_of}
use Rattle.rows.specs.Stray.{row_bits}
use Rattle.rows.specs.Table.{row_at, rows_of, room}
use Rattle.rows.specs.Access.{bit_set}
use Rattle.rows.proofs.TableLaws.{rows_of_next, row_at_outside, length_row_at, get_or_row_at}
use Rattle.rows.proofs.WriteLaws.{bit_set_inside, length_bit_set}

pub values_same : (m : ℕ) (f g : ℕ → Bool) → ((k : ℕ) → k < m → f k ≡ g k) → values m f ≡ values m g
values_same zero f g same = refl
values_same (suc m) f g same = ap₂ ◌∷◌ (same 0 (omega arith)) (values_same m (λ i. f (suc i)) (λ i. g (suc i)) (λ k h. same (suc k) (omega arith)))

-- Rows below a count, where the rows are the same.
pub rows_of_same : (m n : ℕ) (a b : List ℕ) → n ≤ room a → n ≤ room b → ((j : ℕ) → j < n → row_at a j ≡ row_at b j) → rows_of m n a ≡ rows_of m n b
rows_of_same m zero a b ha hb same = refl
rows_of_same m (suc n) a b ha hb same =
    rows_of_next m n a (omega arith)
    ∙ ap₂ (λ (l : List (List Bool)) (r : List ℕ). l ++ (row_of m r ∷ []))
    (rows_of_same m n a b (omega arith) (omega arith) (λ j h. same j (omega arith))) (same n (omega arith))
    ∙ sym (rows_of_next m n b (omega arith))

-- A bit that is set leaves the other rows.
pub other_rows : (t : List ℕ) (i k : ℕ) → i < room t → k < row_bits → (j : ℕ) → (j ≡ i → ⊥) → row_at (bit_set t i k) j ≡ row_at t j
other_rows t i k h own j other = go (dec_lt j (room t))
  where
    same : length (bit_set t i k) ≡ length t
    same = length_bit_set t i k h own

    go : Dec (j < room t) → row_at (bit_set t i k) j ≡ row_at t j
    go (yes into) =
        let into_set : j < room (bit_set t i k) = omega (arith, same) in
        ext_get_or 0 (row_at (bit_set t i k) j) (row_at t j) (length_row_at (bit_set t i k) j into_set ∙ sym (length_row_at t j into)) (λ p below.
        let p<16 : p < 16 = omega (arith, length_row_at (bit_set t i k) j into_set) in
        get_or_row_at (bit_set t i k) j p into_set p<16
        ∙ ap (λ (l : List ℕ). get_or l (16 * j + p) 0) (bit_set_inside t i k h own)
        ∙ get_or-set_other t (16 * i + k / 8) (16 * j + p) (bit_or (get_or t (16 * i + k / 8) 0) (2 ^ (k % 8))) 0 (λ meet. other (omega arith))
        ∙ sym (get_or_row_at t j p into p<16))
    go (no past) = row_at_outside (bit_set t i k) j (omega (arith, same)) ∙ sym (row_at_outside t j (omega arith))
