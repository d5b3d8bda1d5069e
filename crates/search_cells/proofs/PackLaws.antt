-- Own values packed into the bytes of a row, value by value, and the rows packed from the start of the work area, row by row.
-- Assumes nothing.
use Prim.Native.Nat.{ℕ, zero, suc, ◌+◌, ◌-◌, ◌*◌, ◌/◌, ◌%◌, ◌^◌, ◌≤◌, ◌<◌}
use mathlib.Core.Path.{◌≡◌, refl, sym, ap, ◌∙◌, subst}
use mathlib.Core.Bool.{Bool, true, false, ◌||◌, cond, or-false, true≢false, false≢true}
use mathlib.Core.List.{List, [], ◌∷◌, ◌++◌, append_assoc, append-nil}
use native.Mathlib.Nat.{zero-add, suc-add}
use native.Mathlib.Numerals.{add-one}
use native.Mathlib.Omega.{arith}
use lib.Bits.{bit_or, or_lt}
use lib.Dec.{eqb, eqb-zero-suc, eqb-suc-zero, eqb-suc-suc}
use lib.ListN.{length, get_or, set, take, drop, replicate, length-append, length-drop}
use lib.Pow.{pow-lt}
use lib.Seq.{ext_get_or, get_or-drop, take_at, drop_at, take_all, take-nil, take-append-le, drop-append-add, drop-drop, drop-length, length-take-le}
use lib.Seq.{set-append_left}
use borrow.Author.Tests.{eq-eqb, ne_eqb}
use borrow.Rule.Slice.PartMut.{mid_of, post_of, put_mid, Post-is, mid_len}
use Rattle.rows.specs.Stray.{row_bits}
use Rattle.formula.specs.Formula.{work_size, max_rows, max_unknowns}
use Rattle.rows.specs.Row.{bit_of, bytes_of}
use Rattle.rows.specs.Table.{row_at, room, table_of}
use Rattle.rows.specs.Access.{bit_set, placed}
use Rattle.rows.proofs.BitLaws.{bits_determine}
use Rattle.rows.proofs.RowLaws.{bit_in_byte, length_bytes_of, bytes_of_below, bit_bytes_of}
use Rattle.rows.proofs.TableLaws.{row_at_inside, get_or_row_at}
use Rattle.rows.proofs.WriteLaws.{bit_set_inside, length_bit_set, bit_of_bit_set, length_placed, row_at_placed}
use Rattle.expansion.specs.Play.{first_value, later_values, part}
use Rattle.expansion.proofs.LeadingPath.{first_at, later_at}
use Rattle.expansion.specs.Cells.{tabulate}
use Rattle.expansion.proofs.Engine.{tabulate_at}
use Rattle.search_cells.specs.Cells.{flags as flags_from, spot, cells, owned}
use Rattle.search_cells.specs.Steps.{yielded, packed}
use Rattle.search_cells.proofs.CellLaws.{value_same}
use Rattle.search_cells.proofs.OwnedLaws.{owned_at, length_owned}
use Rattle.search_cells.proofs.StepLaws.{sizes_fit}

-- ---- own values, position by position

part_own : (ts vs : List Bool) (k : ℕ) → get_or ts k false ≡ true → part (take (suc k) ts) vs ≡ part (take k ts) vs ++ (get_or vs k false ∷ [])
part_own [] vs k own = absurd (false≢true own)
part_own (false ∷ ts) vs zero own = absurd (false≢true own)
part_own (true ∷ ts) vs zero own = ap (λ (v : Bool). v ∷ []) (sym (first_at vs))
part_own (true ∷ ts) vs (suc k) own =
    ap (λ (l : List Bool). first_value vs ∷ l)
    (part_own ts (later_values vs) k own ∙ ap (λ (v : Bool). part (take k ts) (later_values vs) ++ (v ∷ [])) (sym (later_at vs k)))
part_own (false ∷ ts) vs (suc k) own =
    part_own ts (later_values vs) k own ∙ ap (λ (v : Bool). part (take k ts) (later_values vs) ++ (v ∷ [])) (sym (later_at vs k))

part_other : (ts vs : List Bool) (k : ℕ) → get_or ts k false ≡ false → part (take (suc k) ts) vs ≡ part (take k ts) vs
part_other [] vs k other = ap (λ (l : List Bool). part l vs) (sym (take-nil k))
part_other (true ∷ ts) vs zero other = absurd (true≢false other)
part_other (false ∷ ts) vs zero other = refl
part_other (true ∷ ts) vs (suc k) other = ap (λ (l : List Bool). first_value vs ∷ l) (part_other ts (later_values vs) k other)
part_other (false ∷ ts) vs (suc k) other = part_other ts (later_values vs) k other

length_part_most : (ts vs : List Bool) (k : ℕ) → length (part (take k ts) vs) ≤ k
length_part_most ts vs zero = omega arith
length_part_most [] vs (suc k) = omega arith
length_part_most (true ∷ ts) vs (suc k) = let h = length_part_most ts (later_values vs) k in omega arith
length_part_most (false ∷ ts) vs (suc k) = let h = length_part_most ts (later_values vs) k in omega arith

-- The own values at the positions below k.
abbrev own_values : List ℕ → ℕ → (ℕ → Bool) → ℕ → List Bool
own_values kinds side f k = part (take k (owned kinds side)) (tabulate (length kinds) f)

module _ (kinds : List ℕ) (side : ℕ) (f : ℕ → Bool) where
  own_values_all : own_values kinds side f (length kinds) ≡ part (owned kinds side) (tabulate (length kinds) f)
  own_values_all =
      ap (λ (ts : List Bool). part ts (tabulate (length kinds) f))
      (take_all (length kinds) (owned kinds side) (omega (arith, length_owned kinds side)))

  module _ (k : ℕ) (inside : k < length kinds) where
    own_values_own : get_or kinds k 0 ≡ side → own_values kinds side f (k + 1) ≡ own_values kinds side f k ++ (f k ∷ [])
    own_values_own same =
        let own : get_or (owned kinds side) k false ≡ true = owned_at kinds side k inside ∙ eq-eqb (get_or kinds k 0) side same in
        ap (own_values kinds side f) (add-one k)
        ∙ part_own (owned kinds side) (tabulate (length kinds) f) k own
        ∙ ap (λ (v : Bool). own_values kinds side f k ++ (v ∷ [])) (tabulate_at (length kinds) f k false inside)

    own_values_other : (get_or kinds k 0 ≡ side → ⊥) → own_values kinds side f (k + 1) ≡ own_values kinds side f k
    own_values_other differs =
        let other : get_or (owned kinds side) k false ≡ false = owned_at kinds side k inside ∙ ne_eqb (get_or kinds k 0) side differs in
        ap (own_values kinds side f) (add-one k) ∙ part_other (owned kinds side) (tabulate (length kinds) f) k other

-- ---- the bytes of a row with a value more

-- Rows of sixteen bytes with the same bits are equal.
same_bits : (b c : List ℕ) → length b ≡ 16 → length c ≡ 16 → ((p : ℕ) → get_or b p 0 < 256) → ((p : ℕ) → get_or c p 0 < 256)
    → ((k : ℕ) → k < row_bits → bit_of b k ≡ bit_of c k) → b ≡ c
same_bits b c width_b width_c below_b below_c same =
    ext_get_or 0 b c (width_b ∙ sym width_c) (λ p inside.
    bits_determine 8 (get_or b p 0) (get_or c p 0) (below_b p) (below_c p) (λ t less.
    sym (bit_in_byte b p t less) ∙ same (8 * p + t) (omega arith) ∙ bit_in_byte c p t less))

get_or_false : (r : List Bool) (k : ℕ) → get_or (r ++ (false ∷ [])) k false ≡ get_or r k false
get_or_false [] zero = refl
get_or_false [] (suc k) = refl
get_or_false (v ∷ r) zero = refl
get_or_false (v ∷ r) (suc k) = get_or_false r k

get_or_true : (r : List Bool) (k : ℕ) → get_or (r ++ (true ∷ [])) k false ≡ get_or r k false || eqb (length r) k
get_or_true [] zero = refl
get_or_true [] (suc k) = sym (eqb-zero-suc k)
get_or_true (v ∷ r) zero = sym (ap (λ (e : Bool). v || e) (eqb-suc-zero (length r)) ∙ or-false v)
get_or_true (v ∷ r) (suc k) = get_or_true r k ∙ ap (λ (e : Bool). get_or r k false || e) (sym (eqb-suc-suc (length r) k))

-- False leaves the bytes ..
bytes_of_false : (r : List Bool) → bytes_of (r ++ (false ∷ [])) ≡ bytes_of r
bytes_of_false r =
    same_bits (bytes_of (r ++ (false ∷ []))) (bytes_of r) (length_bytes_of (r ++ (false ∷ []))) (length_bytes_of r)
    (bytes_of_below (r ++ (false ∷ []))) (bytes_of_below r)
    (λ k less. bit_bytes_of (r ++ (false ∷ [])) k less ∙ get_or_false r k ∙ sym (bit_bytes_of r k less))

row_at_whole : (b : List ℕ) → length b ≡ 16 → row_at b 0 ≡ b
row_at_whole b width = row_at_inside b 0 (omega arith) ∙ take_all 16 b (omega arith)

bit_set_whole : (b : List ℕ) (k : ℕ) → length b ≡ 16 → k < row_bits → bit_set b 0 k ≡ set b (k / 8) (bit_or (get_or b (k / 8) 0) (2 ^ (k % 8)))
bit_set_whole b k width own =
    let first : 16 * 0 + k / 8 ≡ k / 8 = omega arith in
    bit_set_inside b 0 k (omega arith) own ∙ ap (λ (x : ℕ). set b x (bit_or (get_or b x 0) (2 ^ (k % 8)))) first

set_below : (b : List ℕ) (j x : ℕ) → ((p : ℕ) → get_or b p 0 < 256) → x < 256 → (p : ℕ) → get_or (set b j x) p 0 < 256
set_below [] j x below hx p = below p
set_below (y ∷ b) zero x below hx zero = hx
set_below (y ∷ b) zero x below hx (suc p) = below (suc p)
set_below (y ∷ b) (suc j) x below hx zero = below zero
set_below (y ∷ b) (suc j) x below hx (suc p) = set_below b j x (λ q. below (suc q)) hx p

-- .. and true sets its bit.
module _ (r : List Bool) (left : length r < row_bits) where
  bit_set_below : (p : ℕ) → get_or (bit_set (bytes_of r) 0 (length r)) p 0 < 256
  bit_set_below p =
      subst (λ (b : List ℕ). get_or b p 0 < 256) (sym (bit_set_whole (bytes_of r) (length r) (length_bytes_of r) left))
      (set_below (bytes_of r) (length r / 8) (bit_or (get_or (bytes_of r) (length r / 8) 0) (2 ^ (length r % 8))) (bytes_of_below r)
      (or_lt 8 (get_or (bytes_of r) (length r / 8) 0) (2 ^ (length r % 8)) (bytes_of_below r (length r / 8)) (pow-lt {i = length r % 8} {j = 8} (omega arith)))
      p)

  bytes_of_true : bit_set (bytes_of r) 0 (length r) ≡ bytes_of (r ++ (true ∷ []))
  bytes_of_true =
      let one_row : 0 < room (bytes_of r) = omega (arith, length_bytes_of r) in
      let width : length (bit_set (bytes_of r) 0 (length r)) ≡ 16 =
      length_bit_set (bytes_of r) 0 (length r) one_row left ∙ length_bytes_of r in
      same_bits (bit_set (bytes_of r) 0 (length r)) (bytes_of (r ++ (true ∷ []))) width (length_bytes_of (r ++ (true ∷ [])))
      bit_set_below (bytes_of_below (r ++ (true ∷ [])))
      (λ k less.
      ap (λ (b : List ℕ). bit_of b k) (sym (row_at_whole (bit_set (bytes_of r) 0 (length r)) width))
      ∙ bit_of_bit_set (bytes_of r) 0 (length r) one_row left k less
      ∙ ap (λ (b : List ℕ). bit_of b k || eqb (length r) k) (row_at_whole (bytes_of r) (length_bytes_of r))
      ∙ ap (λ (v : Bool). v || eqb (length r) k) (bit_bytes_of r k less)
      ∙ sym (get_or_true r k)
      ∙ sym (bit_bytes_of (r ++ (true ∷ [])) k less))

-- ---- a row in its place

set_append_add : (xs ys : List ℕ) (m a : ℕ) → set (xs ++ ys) (length xs + m) a ≡ xs ++ set ys m a
set_append_add [] ys m a = ap (λ (k : ℕ). set ys k a) (zero-add m)
set_append_add (x ∷ xs) ys m a =
    ap (λ (k : ℕ). set (x ∷ (xs ++ ys)) k a) (suc-add (length xs) m) ∙ ap (λ (l : List ℕ). x ∷ l) (set_append_add xs ys m a)

-- What stands behind a byte before the values' bytes gives the values.
values_behind : (w u : List ℕ) (n : ℕ) → n ≤ flags_from → drop n u ≡ drop n w → (i : ℕ) → (cells u).value i ≡ (cells w).value i
values_behind w u n low same i = λ d k. at k d
  where
    at : (k : ℕ) → (cells u).value i k ≡ (cells w).value i k
    at k =
        let place : n + (flags_from + spot i k - n) ≡ flags_from + spot i k = omega arith in
        value_same w u i k
        (ap (λ (x : ℕ). get_or u x 0) (sym place)
        ∙ sym (get_or-drop n u (flags_from + spot i k - n) 0)
        ∙ ap (λ (l : List ℕ). get_or l (flags_from + spot i k - n) 0) same
        ∙ get_or-drop n w (flags_from + spot i k - n) 0
        ∙ ap (λ (x : ℕ). get_or w x 0) place)

module _ (w : List ℕ) (row : ℕ) (inside : row < room w) where
  start : length (take (16 * row) w) ≡ 16 * row
  start = length-take-le (16 * row) w (omega arith)

  module _ (b : List ℕ) (width : length b ≡ 16) where
    front : length (take (16 * row) w ++ b) ≡ 16 * row + 16
    front = let s = start in omega (arith, length-append (take (16 * row) w) b)

    drop_placed : drop (16 * row + 16) (placed w row b) ≡ drop (16 * row + 16) w
    drop_placed = drop_at (take (16 * row) w ++ b) (drop (16 * row + 16) w) (16 * row + 16) front

    take_placed : take (16 * row) (placed w row b) ≡ take (16 * row) w
    take_placed =
        take-append-le (16 * row) (take (16 * row) w ++ b) (drop (16 * row + 16) w) (let f = front in omega arith)
        ∙ take_at (take (16 * row) w) b (16 * row) start

    placed_again : (c : List ℕ) → placed (placed w row b) row c ≡ placed w row c
    placed_again c =
        ap (λ (l : List ℕ). l ++ c ++ drop (16 * row + 16) (placed w row b)) take_placed
        ∙ ap (λ (l : List ℕ). take (16 * row) w ++ c ++ l) drop_placed

    bit_set_placed : (k : ℕ) → k < row_bits → bit_set (placed w row b) row k ≡ placed w row (bit_set b 0 k)
    bit_set_placed k own =
        let within : row < room (placed w row b) = omega (arith, length_placed w row b inside width) in
        let same : get_or (placed w row b) (16 * row + k / 8) 0 ≡ get_or b (k / 8) 0 =
        sym (get_or_row_at (placed w row b) row (k / 8) within (omega arith))
        ∙ ap (λ (l : List ℕ). get_or l (k / 8) 0) (row_at_placed w row b inside width) in
        bit_set_inside (placed w row b) row k within own
        ∙ ap (λ (x : ℕ). set (placed w row b) (16 * row + k / 8) (bit_or x (2 ^ (k % 8)))) same
        ∙ set-append_left (take (16 * row) w ++ b) (drop (16 * row + 16) w) (16 * row + k / 8) (bit_or (get_or b (k / 8) 0) (2 ^ (k % 8)))
        (let f = front in omega arith)
        ∙ ap (λ (l : List ℕ). l ++ drop (16 * row + 16) w)
        (ap (λ (x : ℕ). set (take (16 * row) w ++ b) (x + k / 8) (bit_or (get_or b (k / 8) 0) (2 ^ (k % 8)))) (sym start)
        ∙ set_append_add (take (16 * row) w) b (k / 8) (bit_or (get_or b (k / 8) 0) (2 ^ (k % 8))))
        ∙ ap (placed w row) (sym (bit_set_whole b k width own))

  value_more : (r : List Bool) (v : Bool) → length r < row_bits
      → cond v (bit_set (placed w row (bytes_of r)) row (length r)) (placed w row (bytes_of r)) ≡ placed w row (bytes_of (r ++ (v ∷ [])))
  value_more r true left = bit_set_placed (bytes_of r) (length_bytes_of r) (length r) left ∙ ap (placed w row) (bytes_of_true r left)
  value_more r false left = ap (placed w row) (sym (bytes_of_false r))

-- ---- a row is packed

-- A part of the area that is cleared, and put back.
pub part_cleared : (from to : ℕ) (w z : List ℕ) → from ≤ to → to ≤ length w → z ≡ replicate (length (mid_of from (to - from) w)) 0
    → put_mid from (to - from) w z ≡ take from w ++ (replicate (to - from) 0 ++ drop to w)
part_cleared from to w z order inside zeros =
    ap (λ (l : List ℕ). take from w ++ (l ++ post_of from (to - from) w)) (zeros ∙ ap (λ (n : ℕ). replicate n 0) (mid_len from to w inside))
    ∙ ap (λ (l : List ℕ). take from w ++ (replicate (to - from) 0 ++ l)) (Post-is from to w order)

-- The row as it is cleared.
abbrev row_cleared : List ℕ → ℕ → List ℕ
row_cleared w row = take (16 * row) w ++ (replicate (16 * row + 16 - 16 * row) 0 ++ drop (16 * row + 16) w)

bytes_of_none : bytes_of [] ≡ replicate 16 0
unfolding bytes_of
bytes_of_none = refl

row_cleared_placed : (w : List ℕ) (row : ℕ) → row_cleared w row ≡ placed w row (bytes_of [])
row_cleared_placed w row =
    let sixteen : 16 * row + 16 - 16 * row ≡ 16 = omega arith in
    ap (λ (n : ℕ). take (16 * row) w ++ (replicate n 0 ++ drop (16 * row + 16) w)) sixteen
    ∙ sym (append_assoc (take (16 * row) w) (replicate 16 0) (drop (16 * row + 16) w))
    ∙ ap (placed w row) (sym bytes_of_none)

-- The own values at the positions below k of the sorted row i stand in row `row`, and the next one is its bit `bit`.
pub record RowPacked (kinds : List ℕ) (row i side k bit : ℕ) (w u : List ℕ) : Type 0 where
  pub low : k ≤ length kinds
  pub area : length w ≡ work_size
  pub next : bit ≡ length (own_values kinds side ((cells w).value i) k)
  pub packed : u ≡ placed w row (bytes_of (own_values kinds side ((cells w).value i) k))

module _ (kinds : List ℕ) (row i side : ℕ) (inside : row < max_rows) where
  module _ (w x : List ℕ) (area : length w ≡ work_size) (cleared : x ≡ row_cleared w row) where
    as_placed : x ≡ placed w row (bytes_of [])
    as_placed = cleared ∙ row_cleared_placed w row

    pub row_packed_none : RowPacked kinds row i side 0 0 x x
    row_packed_none = record {
      low = omega arith;
      area = ap length as_placed ∙ length_placed w row (bytes_of []) (omega arith) (length_bytes_of []) ∙ area;
      next = refl;
      packed =
          as_placed
          ∙ sym (placed_again w row (omega arith) (bytes_of []) (length_bytes_of []) (bytes_of []))
          ∙ ap (λ (l : List ℕ). placed l row (bytes_of [])) (sym as_placed);
    }

    pub row_packed_whole : (bit : ℕ) (u : List ℕ) → RowPacked kinds row i side (length kinds) bit x u
        → u ≡ placed w row (bytes_of (part (owned kinds side) (tabulate (length kinds) ((cells w).value i))))
    row_packed_whole bit u p =
        let values : (cells x).value i ≡ (cells w).value i =
        values_behind w x (16 * row + 16) (omega arith)
        (ap (drop (16 * row + 16)) as_placed ∙ drop_placed w row (omega arith) (bytes_of []) (length_bytes_of [])) i in
        p.packed
        ∙ ap (λ (f : ℕ → Bool). placed x row (bytes_of (own_values kinds side f (length kinds)))) values
        ∙ ap (λ (r : List Bool). placed x row (bytes_of r)) (own_values_all kinds side ((cells w).value i))
        ∙ ap (λ (l : List ℕ). placed l row (bytes_of (part (owned kinds side) (tabulate (length kinds) ((cells w).value i))))) as_placed
        ∙ placed_again w row (omega arith) (bytes_of []) (length_bytes_of []) (bytes_of (part (owned kinds side) (tabulate (length kinds) ((cells w).value i))))

  module _ (k bit : ℕ) (w u : List ℕ) (p : RowPacked kinds row i side k bit w u) where
    abbrev so_far : List Bool
    so_far = own_values kinds side ((cells w).value i) k

    pub row_packed_bit : bit ≤ k
    row_packed_bit = let next = p.next in let most = length_part_most (owned kinds side) (tabulate (length kinds) ((cells w).value i)) k in omega arith

    values_kept : (cells u).value i ≡ (cells w).value i
    values_kept =
        let area = p.area in
        values_behind w u (16 * row + 16) (omega arith)
        (ap (drop (16 * row + 16)) p.packed ∙ drop_placed w row (omega arith) (bytes_of so_far) (length_bytes_of so_far)) i

    pub row_packed_other : k < length kinds → (get_or kinds k 0 ≡ side → ⊥) → RowPacked kinds row i side (k + 1) bit w u
    row_packed_other less differs =
        let same = own_values_other kinds side ((cells w).value i) k less differs in
        record {
          low = omega arith;
          area = p.area;
          next = p.next ∙ ap length (sym same);
          packed = p.packed ∙ ap (λ (r : List Bool). placed w row (bytes_of r)) (sym same);
        }

    pub row_packed_own : k < length kinds → length kinds ≤ max_unknowns → get_or kinds k 0 ≡ side → (v : Bool) → v ≡ (cells u).value i k
        → (x : List ℕ) → x ≡ cond v (bit_set u row bit) u → RowPacked kinds row i side (k + 1) (bit + 1) w x
    row_packed_own less few own v value x stored =
        let area = p.area in
        let most = row_packed_bit in
        let next = p.next in
        let read : v ≡ (cells w).value i k = value ∙ ap (λ (f : ℕ → Bool). f k) values_kept in
        let more = own_values_own kinds side ((cells w).value i) k less own in
        record {
          low = omega arith;
          area = p.area;
          next =
              let longer = length-append so_far ((cells w).value i k ∷ []) in
              let whole = ap length more in omega arith;
          packed =
              stored
              ∙ ap (λ (l : List ℕ). cond v (bit_set l row bit) l) p.packed
              ∙ ap (λ (n : ℕ). cond v (bit_set (placed w row (bytes_of so_far)) row n) (placed w row (bytes_of so_far))) next
              ∙ value_more w row (omega arith) so_far v (omega arith)
              ∙ ap (λ (y : Bool). placed w row (bytes_of (so_far ++ (y ∷ [])))) read
              ∙ ap (λ (r : List Bool). placed w row (bytes_of r)) (sym more);
        }

-- ---- the rows are packed

table_of_more : (n : ℕ) (f : ℕ → List Bool) → table_of (tabulate (suc n) f) ≡ table_of (tabulate n f) ++ bytes_of (f n)
table_of_more zero f = append-nil (bytes_of (f zero))
table_of_more (suc n) f =
    ap (λ (l : List ℕ). bytes_of (f zero) ++ l) (table_of_more n (λ j. f (suc j)))
    ∙ sym (append_assoc (bytes_of (f zero)) (table_of (tabulate n (λ j. f (suc j)))) (bytes_of (f (suc n))))

length_table_of : (n : ℕ) (f : ℕ → List Bool) → length (table_of (tabulate n f)) ≡ 16 * n
length_table_of zero f = refl
length_table_of (suc n) f =
    let first = length_bytes_of (f zero) in
    let later = length_table_of n (λ j. f (suc j)) in
    omega (arith, length-append (bytes_of (f zero)) (table_of (tabulate n (λ j. f (suc j)))))

-- The area with the first n rows packed.
abbrev pub rows_packed : List ℕ → List ℕ → ℕ → List ℕ → ℕ → List ℕ
rows_packed kinds place side w n = table_of (tabulate n (yielded kinds place side w)) ++ drop (16 * n) w

module _ (kinds place : List ℕ) (side : ℕ) (w : List ℕ) (area : length w ≡ work_size) where
  abbrev table : ℕ → List ℕ
  table n = table_of (tabulate n (yielded kinds place side w))

  length_table : (n : ℕ) → length (table n) ≡ 16 * n
  length_table n = length_table_of n (yielded kinds place side w)

  length_rows_packed : (n : ℕ) → n ≤ max_rows → length (rows_packed kinds place side w n) ≡ work_size
  length_rows_packed n few =
      let a = length_table n in
      let b = length-drop (16 * n) w in
      omega (arith, length-append (table n) (drop (16 * n) w))

  next_placed : (n : ℕ) (b : List ℕ) → placed (rows_packed kinds place side w n) n b ≡ table n ++ b ++ drop (16 * (n + 1)) w
  next_placed n b =
      let past : 16 * n + 16 ≡ length (table n) + 16 = let a = length_table n in omega arith in
      let next : 16 * n + 16 ≡ 16 * (n + 1) = omega arith in
      ap (λ (l : List ℕ). l ++ b ++ drop (16 * n + 16) (rows_packed kinds place side w n)) (take_at (table n) (drop (16 * n) w) (16 * n) (length_table n))
      ∙ ap (λ (l : List ℕ). table n ++ b ++ l)
      (ap (λ (m : ℕ). drop m (rows_packed kinds place side w n)) past
      ∙ drop-append-add (table n) (drop (16 * n) w) 16
      ∙ drop-drop 16 (16 * n) w
      ∙ ap (λ (m : ℕ). drop m w) next)

  pub rows_packed_more : (n : ℕ) (u x : List ℕ) → n < max_rows → u ≡ rows_packed kinds place side w n → x ≡ placed u n (bytes_of (yielded kinds place side u n))
      → x ≡ rows_packed kinds place side w (n + 1)
  rows_packed_more n u x few before now =
      let values : (cells u).value (get_or place n 0) ≡ (cells w).value (get_or place n 0) =
      values_behind w u (16 * n) (omega arith)
      (ap (drop (16 * n)) before ∙ drop_at (table n) (drop (16 * n) w) (16 * n) (length_table n)) (get_or place n 0) in
      now
      ∙ ap (λ (f : ℕ → Bool). placed u n (bytes_of (part (owned kinds side) (tabulate (length kinds) f)))) values
      ∙ ap (λ (l : List ℕ). placed l n (bytes_of (yielded kinds place side w n))) before
      ∙ next_placed n (bytes_of (yielded kinds place side w n))
      ∙ ap (λ (l : List ℕ). l ++ drop (16 * (n + 1)) w) (sym (table_of_more n (yielded kinds place side w)))
      ∙ ap (λ (m : ℕ). table m ++ drop (16 * (n + 1)) w) (sym (add-one n))

  -- All that is behind the rows is cleared.
  pub rows_packed_whole : (n : ℕ) (u x : List ℕ) → n ≤ max_rows → u ≡ rows_packed kinds place side w n
      → x ≡ take (16 * n) u ++ (replicate (length u - 16 * n) 0 ++ drop (length u) u) → x ≡ table n ++ replicate (work_size - 16 * n) 0
  rows_packed_whole n u x few before now =
      now
      ∙ ap (λ (l : List ℕ). take (16 * n) u ++ (replicate (length u - 16 * n) 0 ++ l)) (drop-length u)
      ∙ ap (λ (l : List ℕ). take (16 * n) u ++ l) (append-nil (replicate (length u - 16 * n) 0))
      ∙ ap (λ (m : ℕ). take (16 * n) u ++ replicate (m - 16 * n) 0) (ap length before ∙ length_rows_packed n few)
      ∙ ap (λ (l : List ℕ). l ++ replicate (work_size - 16 * n) 0) (ap (take (16 * n)) before ∙ take_at (table n) (drop (16 * n) w) (16 * n) (length_table n))

  pub packed_inside : length kinds ≤ max_unknowns → length place ≤ max_rows →
      packed kinds place side w ≡ table (length place) ++ replicate (work_size - 16 * length place) 0
  unfolding packed
  packed_inside few most = rw (sizes_fit (length w) (length kinds) (length place) area few most)
