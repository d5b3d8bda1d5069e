-- Rows of tables: their bytes, the rows below a count as values, stray bits.
-- Assumes nothing.
use mathlib.Core.Path.{◌≡◌, refl, sym, ap, ◌∙◌}
use mathlib.Core.Bool.{Bool, true, false}
use mathlib.Core.List.{List, [], ◌∷◌, ◌++◌}
use Prim.Native.Nat.{ℕ, zero, suc, ◌+◌, ◌*◌, ◌/◌, ◌%◌, ◌^◌, ◌≤◌, ◌<◌, min, zero-le}
use native.Mathlib.Nat.{le_of_suc-le-suc, not-suc-le-zero}
use native.Mathlib.Decide.{dec_lt}
use native.Mathlib.Omega.{arith}
use lib.ListN.{length, get_or, take, drop, length-drop, length-append}
use lib.Seq.{get_or-take, get_or-drop, drop-drop, length-take-le}
use borrow.Author.Tests.{le-leb, lt-leb}
use Rattle.preference.specs.Preference.{odd}
use Rattle.rows.specs.Row.{bit_of, values, row_of, bytes_of}
use Rattle.rows.specs.Stray.{stray, stray_rows, row_bits}
use Rattle.rows.specs.Table.{inside, row_at, room, rows_of, table_of}
use Rattle.rows.proofs.ValueLaws.{values_false, get_or_values, none_any, found_any}
use Rattle.rows.proofs.RowLaws.{no_bit_past_end, none_stray, length_bytes_of}

-- ---- a row of a table

-- The sixteen bytes from x on.
pub get_d_part : (t : List ℕ) (x p : ℕ) → p < 16 → get_or (take 16 (drop x t)) p 0 ≡ get_or t (x + p) 0
get_d_part t x p h = get_or-take 16 (drop x t) p 0 h ∙ get_or-drop x t p 0

length_part : (t : List ℕ) (x : ℕ) → x + 16 ≤ length t → length (take 16 (drop x t)) ≡ 16
length_part t x h = length-take-le 16 (drop x t) (omega (arith, length-drop x t))

pub inside_true : (t : List ℕ) (i : ℕ) → i < room t → inside t i ≡ true
inside_true t i h = le-leb (16 * i + 16) (length t) (omega arith)

pub inside_false : (t : List ℕ) (i : ℕ) → room t ≤ i → inside t i ≡ false
inside_false t i h = lt-leb (16 * i + 16) (length t) (omega arith)

pub row_at_inside : (t : List ℕ) (i : ℕ) → i < room t → row_at t i ≡ take 16 (drop (16 * i) t)
unfolding row_at
row_at_inside t i h = rw (inside_true t i h)

pub row_at_outside : (t : List ℕ) (i : ℕ) → room t ≤ i → row_at t i ≡ []
unfolding row_at
row_at_outside t i h = rw (inside_false t i h)

pub length_row_at : (t : List ℕ) (i : ℕ) → i < room t → length (row_at t i) ≡ 16
length_row_at t i h =
    ap length (row_at_inside t i h) ∙ length_part t (16 * i) (omega arith)

pub get_or_row_at : (t : List ℕ) (i p : ℕ) → i < room t → p < 16 → get_or (row_at t i) p 0 ≡ get_or t (16 * i + p) 0
get_or_row_at t i p h below =
    ap (λ (l : List ℕ). get_or l p 0) (row_at_inside t i h) ∙ get_d_part t (16 * i) p below

-- Bit k of row i, where it stands in the table.
pub bit_of_row_at : (t : List ℕ) (i k : ℕ) → i < room t → k < row_bits → bit_of (row_at t i) k ≡ odd (get_or t (16 * i + k / 8) 0 / 2 ^ (k % 8))
unfolding bit_of
bit_of_row_at t i k h own = ap (λ (x : ℕ). odd (x / 2 ^ (k % 8))) (get_or_row_at t i (k / 8) h (omega arith))

-- ---- the rows below a count

pub length_rows_of : (m n : ℕ) (t : List ℕ) → length (rows_of m n t) ≡ n
length_rows_of m zero t = refl
length_rows_of m (suc n) t = ap suc (length_rows_of m n (drop 16 t))

drop_row : (t : List ℕ) (i : ℕ) → drop (16 * i) (drop 16 t) ≡ drop (16 * suc i) t
drop_row t i =
    let next : 16 + 16 * i ≡ 16 * suc i = omega arith in
    drop-drop (16 * i) 16 t ∙ ap (λ (d : ℕ). drop d t) next

get_or_rows_of_part : (m n : ℕ) (t : List ℕ) (i : ℕ) → i < n → get_or (rows_of m n t) i [] ≡ row_of m (take 16 (drop (16 * i) t))
get_or_rows_of_part m zero t i h = absurd (not-suc-le-zero h)
get_or_rows_of_part m (suc n) t zero h = refl
get_or_rows_of_part m (suc n) t (suc i) h =
    get_or_rows_of_part m n (drop 16 t) i (le_of_suc-le-suc h) ∙ ap (λ (l : List ℕ). row_of m (take 16 l)) (drop_row t i)

pub get_or_rows_of : (m n : ℕ) (t : List ℕ) (i : ℕ) → i < n → i < room t → get_or (rows_of m n t) i [] ≡ row_of m (row_at t i)
get_or_rows_of m n t i h into = get_or_rows_of_part m n t i h ∙ ap (row_of m) (sym (row_at_inside t i into))

-- One row more.
pub rows_of_next : (m n : ℕ) (t : List ℕ) → n < room t → rows_of m (suc n) t ≡ rows_of m n t ++ (row_of m (row_at t n) ∷ [])
rows_of_next m n t h = go n t ∙ ap (λ (b : List ℕ). rows_of m n t ++ (row_of m b ∷ [])) (sym (row_at_inside t n h))
  where
    go : (n : ℕ) (t : List ℕ) → rows_of m (suc n) t ≡ rows_of m n t ++ (row_of m (take 16 (drop (16 * n) t)) ∷ [])
    go zero t = refl
    go (suc n) t =
        ap (λ (l : List (List Bool)). row_of m (take 16 t) ∷ l)
        (go n (drop 16 t) ∙ ap (λ (l : List ℕ). rows_of m n (drop 16 t) ++ (row_of m (take 16 l) ∷ [])) (drop_row t n))

-- The table that holds just some rows is sixteen bytes a row.
pub length_table_of : (rows : List (List Bool)) → length (table_of rows) ≡ 16 * length rows
length_table_of [] = refl
length_table_of (r ∷ rows) =
    let later = length_table_of rows in
    let first = length_bytes_of r in
    omega (arith, length-append (bytes_of r) (table_of rows))

-- What holds of the rows inside the table that were passed, and of every place outside it, holds below the count.
pub below_count : (P : ℕ → Type 0) (t : List ℕ) (n i : ℕ) → min n (room t) ≤ i → ((q : ℕ) → q < i → P q) → ((q : ℕ) → room t ≤ q → P q)
    → (q : ℕ) → q < n → P q
below_count P t n i end passed outside q h = go (dec_lt q (room t))
  where
    go : Dec (q < room t) → P q
    go (yes into) = passed q (omega arith)
    go (no past) = outside q (omega arith)

-- ---- stray bits of a table

pub no_stray_outside : (m : ℕ) (t : List ℕ) (i : ℕ) → room t ≤ i → stray m (row_at t i) ≡ false
no_stray_outside m t i h = ap (stray m) (row_at_outside t i h) ∙ none_stray m [] (λ k low high. no_bit_past_end [] k zero-le)

pub none_stray_rows : (m n : ℕ) (t : List ℕ) → ((i : ℕ) → i < n → stray m (row_at t i) ≡ false) → stray_rows m n t ≡ false
unfolding stray_rows
none_stray_rows m n t none = none_any (values n (λ i. stray m (row_at t i))) (values_false n (λ i. stray m (row_at t i)) none)

pub found_stray_rows : (m n : ℕ) (t : List ℕ) (i : ℕ) → i < n → stray m (row_at t i) ≡ true → stray_rows m n t ≡ true
unfolding stray_rows
found_stray_rows m n t i h found =
    found_any (values n (λ i. stray m (row_at t i))) i (get_or_values n (λ i. stray m (row_at t i)) i h ∙ found)
