-- A table's bytes: the rows of the run stand in them, and what is read from them and written to them speaks of those rows. Assumes nothing.
use Prim.Native.Nat.{ℕ, zero, suc, ◌+◌, ◌*◌, ◌≤◌, ◌<◌}
use Rattle.std.specs.Prelude.{None, Some}
use native.Mathlib.Omega.{arith}
use mathlib.Core.Path.{◌≡◌, refl, sym, ap, subst, ◌∙◌}
use mathlib.Core.Bool.{true, false, true≢false}
use mathlib.Core.List.{List, [], ◌∷◌, ◌++◌, append_assoc}
use lib.ListN.{length, get_or, take, drop, length-append}
use lib.Seq.{ext_get_or, get_or-take, drop-drop, take_at, drop_at, length-take-le}
use Rattle.formula.specs.Formula.{max_unknowns}
use Rattle.rows.specs.Row.{row_of, bytes_of}
use Rattle.rows.specs.Table.{row_at, rows_of, table_of, room}
use Rattle.rows.specs.Stray.{stray_rows}
use Rattle.rows.specs.Access.{equal_rows, first_place}
use Rattle.rows.proofs.RowLaws.{IsRow, length_bytes_of, row_of_bytes_of, bytes_of_is_row}
use Rattle.rows.proofs.TableLaws.{length_table_of, row_at_inside, length_rows_of, get_or_rows_of, none_stray_rows}
use Rattle.rows.proofs.FindLaws.{equal_rows_true, equal_values_equal_rows, first_place_at, first_place_absent}
use Rattle.expansion.specs.Play.{Row}
use Rattle.expansion.proofs.Membership.{In, in_of_place, place_of_in}

-- Rows that have a value for each of m unknowns.
abbrev pub Wide : ℕ → List Row → Type 0
Wide m rows = (i : ℕ) → i < length rows → length (get_or rows i []) ≡ m

pub table_of_append : (rows more : List Row) → table_of (rows ++ more) ≡ table_of rows ++ table_of more
table_of_append [] more = refl
table_of_append (r ∷ rows) more = ap (λ (l : List ℕ). bytes_of r ++ l) (table_of_append rows more) ∙ sym
    (append_assoc (bytes_of r) (table_of rows) (table_of more))

-- ---- rows at the start of a table

part_of_table : (rows : List Row) (rest : List ℕ) (i : ℕ) → i < length rows
    → take 16 (drop (16 * i) (table_of rows ++ rest)) ≡ bytes_of (get_or rows i [])
part_of_table [] rest i h = absurd (omega arith)
part_of_table (r ∷ rows) rest zero h =
    ap (take 16) (append_assoc (bytes_of r) (table_of rows) rest) ∙ take_at (bytes_of r) (table_of rows ++ rest) 16 (length_bytes_of r)
part_of_table (r ∷ rows) rest (suc i) h =
    let next : 16 * suc i ≡ 16 + 16 * i = omega arith in
    ap (take 16)
    (ap (λ (d : ℕ). drop d ((bytes_of r ++ table_of rows) ++ rest)) next
    ∙ sym (drop-drop (16 * i) 16 ((bytes_of r ++ table_of rows) ++ rest))
    ∙ ap (drop (16 * i))
    (ap (drop 16) (append_assoc (bytes_of r) (table_of rows) rest) ∙ drop_at (bytes_of r) (table_of rows ++ rest) 16 (length_bytes_of r)))
    ∙ part_of_table rows rest i (omega arith)

in_table : (rows : List Row) (rest : List ℕ) (i : ℕ) → i < length rows → i < room (table_of rows ++ rest)
in_table rows rest i h = omega (arith, length-append (table_of rows) rest, length_table_of rows)

pub row_at_table : (rows : List Row) (rest : List ℕ) (i : ℕ) → i < length rows → row_at (table_of rows ++ rest) i ≡ bytes_of (get_or rows i [])
row_at_table rows rest i h = row_at_inside (table_of rows ++ rest) i (in_table rows rest i h) ∙ part_of_table rows rest i h

module _ (m : ℕ) (few : m ≤ max_unknowns) (rows : List Row) (rest : List ℕ) (wide : Wide m rows) where
  pub is_row_at : (i : ℕ) → i < length rows → IsRow m (row_at (table_of rows ++ rest) i)
  is_row_at i h = subst (IsRow m) (sym (row_at_table rows rest i h)) (bytes_of_is_row m (get_or rows i []) (wide i h))

  pub values_at : (i : ℕ) → i < length rows → row_of m (row_at (table_of rows ++ rest) i) ≡ get_or rows i []
  values_at i h = ap (row_of m) (row_at_table rows rest i h) ∙ row_of_bytes_of m (get_or rows i []) (wide i h) few

  pub rows_of_table : rows_of m (length rows) (table_of rows ++ rest) ≡ rows
  rows_of_table =
      let n = length_rows_of m (length rows) (table_of rows ++ rest) in
      ext_get_or [] (rows_of m (length rows) (table_of rows ++ rest)) rows n (λ i h.
      let below : i < length rows = omega arith in
      get_or_rows_of m (length rows) (table_of rows ++ rest) i below (in_table rows rest i below) ∙ values_at i below)

  pub no_stray_rows : stray_rows m (length rows) (table_of rows ++ rest) ≡ false
  no_stray_rows = none_stray_rows m (length rows) (table_of rows ++ rest) (λ i h. (is_row_at i h).clean)

  -- ---- rows of two tables

  module _ (others : List Row) (behind : List ℕ) (others_wide : Wide m others) where
    equal_values : (i j : ℕ) → i < length rows → j < length others
        → equal_rows (table_of rows ++ rest) i (table_of others ++ behind) j ≡ true → get_or rows i [] ≡ get_or others j []
    equal_values i j hi hj e =
        sym (values_at i hi)
        ∙ ap (row_of m) (equal_rows_true (table_of rows ++ rest) i (table_of others ++ behind) j e)
        ∙ ap (row_of m) (row_at_table others behind j hj)
        ∙ row_of_bytes_of m (get_or others j []) (others_wide j hj) few

    equal_bytes : (i j : ℕ) → i < length rows → j < length others
        → get_or rows i [] ≡ get_or others j [] → equal_rows (table_of rows ++ rest) i (table_of others ++ behind) j ≡ true
    equal_bytes i j hi hj e =
        equal_values_equal_rows m (table_of rows ++ rest) i (table_of others ++ behind) j (in_table rows rest i hi) (in_table others behind j hj)
        (is_row_at i hi)
        (subst (IsRow m) (sym (row_at_table others behind j hj)) (bytes_of_is_row m (get_or others j []) (others_wide j hj)))
        (values_at i hi
        ∙ e
        ∙ sym (ap (row_of m) (row_at_table others behind j hj) ∙ row_of_bytes_of m (get_or others j []) (others_wide j hj) few))

    -- A look-up among the first n rows.
    pub at_in : (n j p : ℕ) → n ≤ length rows → j < length others
        → first_place (table_of rows ++ rest) n (table_of others ++ behind) j ≡ Some p → In (get_or others j []) (take n rows)
    at_in n j p hn hj e =
        let (below, equal, none) = first_place_at (table_of rows ++ rest) n (table_of others ++ behind) j p e in
        let here : get_or (take n rows) p [] ≡ get_or others j [] = get_or-take n rows p [] below ∙ equal_values p j (omega arith) hj equal in
        subst (λ (x : Row). In x (take n rows)) here (in_of_place (take n rows) p [] (omega (arith, length-take-le n rows hn)))

    pub absent_not_in : (n j : ℕ) → n ≤ length rows → j < length others
        → first_place (table_of rows ++ rest) n (table_of others ++ behind) j ≡ None → In (get_or others j []) (take n rows) → ⊥
    absent_not_in n j hn hj e h =
        let (p, below, here) = place_of_in (get_or others j []) (take n rows) [] h in
        let hp : p < n = omega (arith, length-take-le n rows hn) in
        true≢false
        (sym (equal_bytes p j (omega arith) hj (sym (get_or-take n rows p [] hp) ∙ here))
        ∙ first_place_absent (table_of rows ++ rest) n (table_of others ++ behind) j e p hp)
