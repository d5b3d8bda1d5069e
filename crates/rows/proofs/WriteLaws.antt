-- What stands in the tables after a bit is set and after a row is written: the row named has changed, and no other.
-- Assumes nothing.
use mathlib.Core.Path.{◌≡◌, sym, ap, ◌∙◌}
use mathlib.Core.Bool.{Bool, ◌||◌, or-false}
use mathlib.Core.List.{List, ◌++◌}
use Prim.Native.Nat.{ℕ, ◌+◌, ◌*◌, ◌/◌, ◌%◌, ◌^◌, ◌<◌}
use native.Mathlib.Decide.{ℕ_discrete}
use native.Mathlib.Omega.{arith}
use lib.Bits.{bit_or}
use lib.Dec.{eqb}
use lib.ListN.{length, get_or, take, drop, set, length-append, length-drop, length-set, get_or-append}
use lib.Seq.{ext_get_or, get_or-append-add, get_or-set_same, get_or-set_other, length-take-le}
use borrow.Author.Tests.{lt-ltb, eq-eqb, ne_eqb}
use Rattle.preference.specs.Preference.{odd}
use Rattle.rows.specs.Stray.{row_bits}
use Rattle.rows.specs.Row.{bit_of}
use Rattle.rows.specs.Table.{row_at, room}
use Rattle.rows.specs.Access.{bit_set, placed, rows_written, marks_written}
use Rattle.rows.proofs.BitLaws.{odd_with_bit}
use Rattle.rows.proofs.TableLaws.{inside_true, length_row_at, get_or_row_at, bit_of_row_at}

-- ---- a bit is set

pub bit_set_inside : (t : List ℕ) (i k : ℕ) → i < room t → k < row_bits
    → bit_set t i k ≡ set t (16 * i + k / 8) (bit_or (get_or t (16 * i + k / 8) 0) (2 ^ (k % 8)))
unfolding bit_set
bit_set_inside t i k h own = rw (inside_true t i h, lt-ltb k row_bits own)

-- Places of two bits in a byte.
equal_in_byte : (k q : ℕ) → q / 8 ≡ k / 8 → Dec (k ≡ q) → eqb (k % 8) (q % 8) ≡ eqb k q
equal_in_byte k q byte (yes e) = eq-eqb (k % 8) (q % 8) (ap (λ (n : ℕ). n % 8) e) ∙ sym (eq-eqb k q e)
equal_in_byte k q byte (no e) = ne_eqb (k % 8) (q % 8) (omega arith) ∙ sym (ne_eqb k q e)

odd_set : (t : List ℕ) (x k q : ℕ) → x + k / 8 < length t
    → odd (get_or (set t (x + k / 8) (bit_or (get_or t (x + k / 8) 0) (2 ^ (k % 8)))) (x + q / 8) 0 / 2 ^ (q % 8))
    ≡ odd (get_or t (x + q / 8) 0 / 2 ^ (q % 8)) || eqb k q
odd_set t x k q h = go (ℕ_discrete (q / 8) (k / 8))
  where
    set_byte : ℕ
    set_byte = bit_or (get_or t (x + k / 8) 0) (2 ^ (k % 8))

    go : Dec (q / 8 ≡ k / 8)
        → odd (get_or (set t (x + k / 8) set_byte) (x + q / 8) 0 / 2 ^ (q % 8)) ≡ odd (get_or t (x + q / 8) 0 / 2 ^ (q % 8)) || eqb k q
    go (yes e) =
        ap (λ (p : ℕ). odd (get_or (set t (x + k / 8) set_byte) (x + p) 0 / 2 ^ (q % 8))) e
        ∙ ap (λ (y : ℕ). odd (y / 2 ^ (q % 8))) (get_or-set_same t (x + k / 8) set_byte 0 h)
        ∙ odd_with_bit (get_or t (x + k / 8) 0) (k % 8) (q % 8)
        ∙ ap (λ (p : ℕ). odd (get_or t (x + p) 0 / 2 ^ (q % 8)) || eqb (k % 8) (q % 8)) (sym e)
        ∙ ap (λ (v : Bool). odd (get_or t (x + q / 8) 0 / 2 ^ (q % 8)) || v) (equal_in_byte k q e (ℕ_discrete k q))
    go (no e) =
        ap (λ (y : ℕ). odd (y / 2 ^ (q % 8))) (get_or-set_other t (x + k / 8) (x + q / 8) set_byte 0 (omega arith))
        ∙ sym (or-false (odd (get_or t (x + q / 8) 0 / 2 ^ (q % 8))))
        ∙ ap (λ (v : Bool). odd (get_or t (x + q / 8) 0 / 2 ^ (q % 8)) || v) (sym (ne_eqb k q (λ same. e (ap (λ (n : ℕ). n / 8) (sym same)))))

module _ (t : List ℕ) (i k : ℕ) (h : i < room t) (own : k < row_bits) where
  pub length_bit_set : length (bit_set t i k) ≡ length t
  length_bit_set = ap length (bit_set_inside t i k h own) ∙ length-set t (16 * i + k / 8) (bit_or (get_or t (16 * i + k / 8) 0) (2 ^ (k % 8)))

  -- Bit q of the row: bit k is set, the others are as they were.
  pub bit_of_bit_set : (q : ℕ) → q < row_bits → bit_of (row_at (bit_set t i k) i) q ≡ bit_of (row_at t i) q || eqb k q
  bit_of_bit_set q hq =
      bit_of_row_at (bit_set t i k) i q (omega (arith, length_bit_set)) hq
      ∙ ap (λ (l : List ℕ). odd (get_or l (16 * i + q / 8) 0 / 2 ^ (q % 8))) (bit_set_inside t i k h own)
      ∙ odd_set t (16 * i) k q (omega arith)
      ∙ ap (λ (v : Bool). v || eqb k q) (sym (bit_of_row_at t i q h hq))

-- ---- a row is written

module _ (t : List ℕ) (i : ℕ) (row : List ℕ) (h : i < room t) (width : length row ≡ 16) where
  length_front : length (take (16 * i) t ++ row) ≡ 16 * i + 16
  length_front =
      let part = length-take-le (16 * i) t (omega arith) in
      omega (arith, length-append (take (16 * i) t) row)

  pub length_placed : length (placed t i row) ≡ length t
  length_placed =
      let front = length_front in
      omega (arith, length-append (take (16 * i) t ++ row) (drop (16 * i + 16) t), length-drop (16 * i + 16) t)

  get_or_within : (q : ℕ) → q < 16 → get_or (placed t i row) (16 * i + q) 0 ≡ get_or row q 0
  get_or_within q hq =
      let start : 16 * i ≡ length (take (16 * i) t) = sym (length-take-le (16 * i) t (omega arith)) in
      get_or-append (take (16 * i) t ++ row) (drop (16 * i + 16) t) 0 (16 * i + q) (omega (arith, length_front))
      ∙ ap (λ (n : ℕ). get_or (take (16 * i) t ++ row) (n + q) 0) start
      ∙ get_or-append-add (take (16 * i) t) row q 0

  pub row_at_placed : row_at (placed t i row) i ≡ row
  row_at_placed =
      ext_get_or 0 (row_at (placed t i row) i) row (length_row_at (placed t i row) i (omega (arith, length_placed)) ∙ sym width) (λ q below.
      let hq : q < 16 = omega (arith, length_row_at (placed t i row) i (omega (arith, length_placed))) in
      get_or_row_at (placed t i row) i q (omega (arith, length_placed)) hq ∙ get_or_within q hq)

-- A write that is inside all three tables.
module _ (t marks : List ℕ) (i : ℕ) (u : List ℕ) (j : ℕ) (hi : i < room t) (marked : i < length marks) (hj : j < room u) where
  pub rows_written_inside : rows_written t marks i u j ≡ placed t i (row_at u j)
  unfolding rows_written
  rows_written_inside = rw (inside_true t i hi, lt-ltb i (length marks) marked, inside_true u j hj)

  pub marks_written_inside : (mark : ℕ) → marks_written t marks i u j mark ≡ set marks i mark
  unfolding marks_written
  marks_written_inside mark = rw (inside_true t i hi, lt-ltb i (length marks) marked, inside_true u j hj)
