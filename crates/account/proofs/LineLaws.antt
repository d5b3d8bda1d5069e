-- The parts of a line one behind the other, and one line more behind those before it. Assumes nothing.
use Prim.Native.Nat.{ℕ, zero, suc, ◌+◌, ◌*◌, ◌≤◌, ◌<◌}
use native.Mathlib.Omega.{arith}
use mathlib.Core.Path.{◌≡◌, refl, sym, ap, ap₂, ◌∙◌}
use mathlib.Core.Bool.{Bool, false}
use mathlib.Core.List.{List, [], ◌∷◌, ◌++◌, map, append_assoc, append-nil}
use lib.ListN.{length, take, get_or, set, length-map, get_or-map}
use lib.Seq.{take_all, take-suc-set}
use Rattle.expansion.specs.Play.{Row}
use Rattle.rows.specs.Row.{bit_of, row_of}
use Rattle.rows.specs.Table.{row_at, rows_of}
use Rattle.rows.proofs.RowLaws.{length_row_of, get_or_row_of}
use Rattle.rows.proofs.TableLaws.{length_rows_of, get_or_rows_of}
use Rattle.rounds.specs.Run.{Entry, Table, under_mark}
use Rattle.report.specs.Report.{ascii, decimal}
use Rattle.account.specs.Account.{each, name_line, prefix_line, value_line, digit, row_line, row_lines}
use Rattle.account.specs.Private.Steps.{joined}
use Rattle.account.proofs.ListLaws.{take_one, each_next, each_short, length_joined, get_or_joined}

pub name_behind : (front label : List ℕ) (name : ℕ) → front ++ label ++ decimal name ++ ascii " 0\n" ≡ front ++ name_line label name
unfolding name_line
name_behind front label name = simp append_assoc

pub row_behind : (front label : List ℕ) (mark count : ℕ) (values : List Bool)
    → front ++ label ++ decimal mark ++ ascii " " ++ decimal count ++ ascii " " ++ map digit values ++ ascii "\n" ≡ front ++ row_line label mark count values
unfolding row_line
row_behind front label mark count values = simp append_assoc

-- A kind other than 0.
pub prefix_other : (kind name : ℕ) → (kind ≡ 0 → ⊥) → name_line (ascii "a ") name ≡ prefix_line kind name
prefix_other zero name other = absurd (other refl)
prefix_other (suc kind) name other = refl

-- Before the first line.
pub none_yet : (front : List ℕ) → front ≡ front ++ []
none_yet front = sym (append-nil front)

-- The prefix.
module _ (front kinds names : List ℕ) (as_many : length names ≡ length kinds) (i : ℕ) where
  pub prefix_next : i < length kinds → {before line : List ℕ} → line ≡ before ++ prefix_line (get_or kinds i 0) (get_or names i 0)
      → before ≡ front ++ each prefix_line (take i kinds) (take i names) → line ≡ front ++ each prefix_line (take (i + 1) kinds) (take (i + 1) names)
  prefix_next h written so_far =
      written
      ∙ ap (λ (l : List ℕ). l ++ prefix_line (get_or kinds i 0) (get_or names i 0)) so_far
      ∙ each_next prefix_line front kinds names i 0 0 h (omega arith)

  pub prefix_all : length kinds ≤ i → front ++ each prefix_line (take i kinds) (take i names) ≡ front ++ each prefix_line kinds names
  prefix_all h = ap₂ (λ (a b : List ℕ). front ++ each prefix_line a b) (take_all i kinds h) (take_all i names (omega arith))

-- The opening.
module _ (front row names : List ℕ) (block k : ℕ) where
  abbrev values : List Bool
  values = row_of block (row_at row 0)

  pub opening_next : k < block → block ≤ length names → {value : Bool} → value ≡ bit_of (row_at row 0) k → {before line : List ℕ} → line ≡ before ++ value_line value (get_or names k 0)
      → before ≡ front ++ each value_line (take k values) (take k names) → line ≡ front ++ each value_line (take (k + 1) values) (take (k + 1) names)
  opening_next h named {value} is {before} written so_far =
      written
      ∙ ap₂ (λ (l : List ℕ) (v : Bool). l ++ value_line v (get_or names k 0)) so_far (is ∙ sym (get_or_row_of block (row_at row 0) k h))
      ∙ each_next value_line front values names k false 0 (omega (arith, length_row_of block (row_at row 0))) (omega arith)

  pub opening_all : block ≤ k → front ++ each value_line (take k values) (take k names) ≡ front ++ each value_line values names
  opening_all h =
      let long = length_row_of block (row_at row 0) in
      ap (λ (l : List ℕ). front ++ l) (ap (λ (vs : List Bool). each value_line vs (take k names)) (take_all k values (omega (arith, long))) ∙ each_short value_line values names k (omega (arith, long)))

-- The values of a row.
module _ (front text : List ℕ) (at k m : ℕ) (bytes : List ℕ) where
  abbrev digits : List ℕ
  digits = map digit (row_of m bytes)

  long : length digits ≡ m
  long = length-map (row_of m bytes) digit ∙ length_row_of m bytes

  pub values_next : {d : ℕ} {value : Bool} → d ≡ digit value → value ≡ bit_of bytes k → k < m → at + k < length text → take (at + k) text ≡ front ++ take k digits
      → take (at + (k + 1)) (set text (at + k) d) ≡ front ++ take (k + 1) digits
  values_next {d} is same h there so_far =
      let next : at + (k + 1) ≡ suc (at + k) = omega arith in
      let value_so = is ∙ ap digit (same ∙ sym (get_or_row_of m bytes k h)) ∙ sym (get_or-map digit (row_of m bytes) k false) in
      ap (λ (n : ℕ). take n (set text (at + k) d)) next
      ∙ take-suc-set text (at + k) d there
      ∙ ap₂ (λ (l : List ℕ) (v : ℕ). l ++ (v ∷ [])) so_far value_so
      ∙ append_assoc front (take k digits) (get_or digits k 48 ∷ [])
      ∙ ap (λ (l : List ℕ). front ++ l) (sym (take_one digits k 48 (omega (arith, long))))

  pub values_all : m ≤ k → front ++ take k digits ≡ front ++ digits
  values_all h = ap (λ (l : List ℕ). front ++ l) (take_all k digits (omega (arith, long)))

-- A side's rows.
module _ (front label : List ℕ) (m : ℕ) (rows marks counts : List ℕ) (i : ℕ) where
  abbrev all : List Row
  all = rows_of m (length marks) rows

  abbrev entries : Table
  entries = joined all marks

  as_many : length entries ≡ length marks
  as_many = length_joined all marks (length_rows_of m (length marks) rows) ∙ length_rows_of m (length marks) rows

  pub side_next : i < length marks → length counts ≡ length marks → 16 * length marks ≤ length rows → {before line : List ℕ}
      → line ≡ before ++ row_line label (get_or marks i 0) (get_or counts i 0) (row_of m (row_at rows i))
      → before ≡ front ++ row_lines label (take i entries) (take i counts) → line ≡ front ++ row_lines label (take (i + 1) entries) (take (i + 1) counts)
  side_next h counted there {before} written so_far =
      let none = under_mark 0 [] in
      let entry : get_or entries i none ≡ under_mark (get_or marks i 0) (row_of m (row_at rows i)) =
      get_or_joined all marks i none (omega (arith, length_rows_of m (length marks) rows)) h ∙ ap (under_mark (get_or marks i 0)) (get_or_rows_of m (length marks) rows i h (omega arith)) in
      written
      ∙ ap₂ (λ (l : List ℕ) (x : Entry). l ++ row_line label x.mark (get_or counts i 0) x.row) so_far (sym entry)
      ∙ each_next (λ (x : Entry) (n : ℕ). row_line label x.mark n x.row) front entries counts i none 0 (omega (arith, as_many)) (omega arith)

  pub side_all : length marks ≤ i → length counts ≡ length marks
      → front ++ row_lines label (take i entries) (take i counts) ≡ front ++ row_lines label entries counts
  side_all h counted =
      ap₂ (λ (t : Table) (c : List ℕ). front ++ row_lines label t c) (take_all i entries (omega (arith, as_many))) (take_all i counts (omega arith))
