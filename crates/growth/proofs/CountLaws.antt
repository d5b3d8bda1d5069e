-- Laws of what the loops make, one turn more. Assumes nothing.
use Prim.Native.Nat.{ℕ, ◌+◌, ◌*◌, ◌/◌, ◌%◌, ◌^◌, ◌≤◌}
use native.Mathlib.Omega.{arith}
use native.Mathlib.Numerals.{add-one}
use mathlib.Core.Path.{◌≡◌, refl, ap, ◌∙◌}
use mathlib.Core.Bool.{Bool, true, false, ◌&&◌, cond}
use mathlib.Core.List.{List}
use lib.Bits.{bit_or}
use lib.Dec.{ltb}
use lib.ListN.{length, get_or, set, length-set}
use Rattle.rows.specs.Stray.{row_bits}
use Rattle.rows.specs.Row.{weight}
use borrow.Author.Tests.{leb-true}
use Rattle.rows.specs.Table.{inside, row_at}
use Rattle.rows.specs.Access.{bit_set, placed, writable, rows_written, marks_written}
use Rattle.rows.proofs.TableLaws.{length_row_at}
use Rattle.rows.proofs.WriteLaws.{length_placed}
use Rattle.growth.specs.Growth.{is_added, count_below, Bytes, with_row, with_new_row, with_new_rows, with_preferred}

pub count_below_next : (n : ℕ) (f : ℕ → Bool) (v : Bool) → f n ≡ v → count_below (n + 1) f ≡ count_below n f + weight v
count_below_next n f v e =
    ap (λ (m : ℕ). count_below m f) (add-one n) ∙ ap (λ (u : Bool). count_below n f + weight u) e

pub with_preferred_next : (f : ℕ → Bool) (k : ℕ) (row : List ℕ) (v : Bool) → f k ≡ v
    → with_preferred f (k + 1) row ≡ cond v (bit_set (with_preferred f k row) 0 k) (with_preferred f k row)
with_preferred_next f k row v e =
    ap (λ (m : ℕ). with_preferred f m row) (add-one k)
    ∙ ap (λ (u : Bool). cond u (bit_set (with_preferred f k row) 0 k) (with_preferred f k row)) e

pub with_new_rows_next : (yielded : List ℕ) (mark n : ℕ) (b : Bytes)
    → with_new_rows yielded mark (n + 1) b ≡ with_new_row yielded mark n (with_new_rows yielded mark n b)
with_new_rows_next yielded mark n b = ap (λ (m : ℕ). with_new_rows yielded mark m b) (add-one n)

pub length_bit_set : (t : List ℕ) (i k : ℕ) → length (bit_set t i k) ≡ length t
unfolding bit_set
length_bit_set t i k = by_test (inside t i && ltb k row_bits)
  where
    by_test : (v : Bool) → length (cond v (set t (16 * i + k / 8) (bit_or (get_or t (16 * i + k / 8) 0) (2 ^ (k % 8)))) t) ≡ length t
    by_test true = length-set t (16 * i + k / 8) (bit_or (get_or t (16 * i + k / 8) 0) (2 ^ (k % 8)))
    by_test false = refl

pub length_rows_written : (t marks : List ℕ) (i : ℕ) (u : List ℕ) (j : ℕ) → length (rows_written t marks i u j) ≡ length t
unfolding rows_written
length_rows_written t marks i u j = by_test (inside t i) (inside u j) refl refl (ltb i (length marks))
  where
    by_test : (a b : Bool) → inside t i ≡ a → inside u j ≡ b → (v : Bool) → length (cond (a && v && b) (placed t i (row_at u j)) t) ≡ length t
    by_test true true into from true =
        let hi : 16 * i + 16 ≤ length t = leb-true (16 * i + 16) (length t) into in
        let hj : 16 * j + 16 ≤ length u = leb-true (16 * j + 16) (length u) from in
        length_placed t i (row_at u j) (omega arith) (length_row_at u j (omega arith))
    by_test true true into from false = refl
    by_test true false into from true = refl
    by_test true false into from false = refl
    by_test false true into from true = refl
    by_test false true into from false = refl
    by_test false false into from true = refl
    by_test false false into from false = refl

pub length_marks_written : (t marks : List ℕ) (i : ℕ) (u : List ℕ) (j mark : ℕ) → length (marks_written t marks i u j mark) ≡ length marks
unfolding marks_written
length_marks_written t marks i u j mark = by_test (writable t marks i u j)
  where
    by_test : (v : Bool) → length (cond v (set marks i mark) marks) ≡ length marks
    by_test true = length-set marks i mark
    by_test false = refl

-- A row more or none: the lengths stay.
pub length_with_new_row : (yielded : List ℕ) (mark j : ℕ) (b : Bytes)
    → (length (with_new_row yielded mark j b).row_part ≡ length b.row_part) × (length (with_new_row yielded mark j b).mark_part ≡ length b.mark_part)
unfolding with_new_row
length_with_new_row yielded mark j b = by_test (is_added b.row_part b.number yielded j)
  where
    by_test : (v : Bool)
        → (length (cond v (with_row yielded mark j b) b).row_part ≡ length b.row_part)
        × (length (cond v (with_row yielded mark j b) b).mark_part ≡ length b.mark_part)
    by_test true = (
      length_rows_written b.row_part b.mark_part b.number yielded j,
      length_marks_written b.row_part b.mark_part b.number yielded j mark,
    )
    by_test false = (refl, refl)
