-- What the definitions say where what is asked is in the tables and where it is not, and one step of each scan over rows or positions.
-- Assumes nothing.
use Prim.Native.Nat.{ℕ, suc, ◌+◌, ◌-◌, ◌*◌, ◌/◌, ◌≤◌, ◌<◌, min}
use mathlib.Core.Path.{◌≡◌, refl, sym, ap, ◌∙◌}
use mathlib.Core.Bool.{Bool, true, false, not, ◌&&◌, cond}
use mathlib.Core.List.{List}
use native.Mathlib.Omega.{arith}
use native.Mathlib.Decide.{dec_lt}
use lib.Dec.{leb, ltb, eqb}
use lib.ListN.{length, get_or}
use borrow.Author.Tests.{ltb-true, leb-true, eqb-true, eqb-false, not-true, lt-ltb, le-ltb, le-leb, eq-eqb, ne_eqb}
use Rattle.formula.specs.Formula.{work_size, max_rows, max_unknowns}
use Rattle.expansion.proofs.Booleans.{never_both, false_if_not_true}
use Rattle.search_cells.specs.Steps.{first_from}
use Rattle.search_cells.proofs.CellLaws.{level_at}
use Rattle.search_groups.specs.Groups.{differ_before, are_rows, last_behind, copy_start, copy_end, agreement_of, is_repeated, parts_at, split_position}
use Rattle.search_groups.specs.Groups.{earliest, split_row, is_open, have_cells, open_position}

-- ---- what is asked is in the tables, or not

pub both : (a b : Bool) → (a && b) ≡ true → (a ≡ true) × (b ≡ true)
both true b e = (refl, e)
both false b e = absurd (never_both e refl)

unless : (b : Bool) (x y : ℕ) → (b ≡ true → ⊥) → y ≡ cond b x y
unless b x y n = sym (ap (λ (t : Bool). cond t x y) (false_if_not_true b n))

module _ (differences : List ℕ) where
  -- x if there are such rows, else y
  rows_in : (lo hi x y : ℕ) → lo < hi → hi ≤ length differences → cond (are_rows differences lo hi) x y ≡ x
  rows_in lo hi x y over within = rw (lt-ltb lo hi over, le-leb hi (length differences) within)

  rows_out : (lo hi x y : ℕ) → (lo < hi → hi ≤ length differences → ⊥) → y ≡ cond (are_rows differences lo hi) x y
  rows_out lo hi x y out =
      unless (are_rows differences lo hi) x y (λ e.
      let tests = both (ltb lo hi) (leb hi (length differences)) e in
      out (ltb-true lo hi tests.0) (leb-true hi (length differences) tests.1))

  module _ (k lo i : ℕ) where
    pub copy_start_is : lo ≤ i → i < length differences → copy_start differences k lo i ≡ last_behind (differ_before differences k) lo (i - lo)
    unfolding copy_start
    copy_start_is low high = rows_in lo (i + 1) (last_behind (differ_before differences k) lo (i - lo)) i (omega arith) (omega arith)

    pub copy_start_none : (lo ≤ i → i < length differences → ⊥) → i ≡ copy_start differences k lo i
    unfolding copy_start
    copy_start_none out =
        rows_out lo (i + 1) (last_behind (differ_before differences k) lo (i - lo)) i (λ low high. out (omega arith) (omega arith))

  module _ (k i hi : ℕ) where
    pub copy_end_is : i < hi → hi ≤ length differences → copy_end differences k i hi ≡ first_from (differ_before differences k) (i + 1) (hi - (i + 1))
    unfolding copy_end
    copy_end_is = rows_in i hi (first_from (differ_before differences k) (i + 1) (hi - (i + 1))) i

    pub copy_end_none : (i < hi → hi ≤ length differences → ⊥) → i ≡ copy_end differences k i hi
    unfolding copy_end
    copy_end_none = rows_out i hi (first_from (differ_before differences k) (i + 1) (hi - (i + 1))) i

  module _ (lo hi : ℕ) where
    pub split_row_is : lo < hi → hi ≤ length differences → split_row differences lo hi ≡ earliest differences lo (hi - (lo + 1))
    unfolding split_row
    split_row_is = rows_in lo hi (earliest differences lo (hi - (lo + 1))) lo

    pub split_row_none : (lo < hi → hi ≤ length differences → ⊥) → lo ≡ split_row differences lo hi
    unfolding split_row
    split_row_none = rows_out lo hi (earliest differences lo (hi - (lo + 1))) lo

  module _ (lo mid n : ℕ) where
    pub split_position_is : mid < length differences → split_position differences lo mid n ≡ parts_at differences lo mid n
    unfolding split_position
    split_position_is high = ap (λ (t : Bool). cond t (parts_at differences lo mid n) n) (lt-ltb mid (length differences) high)

    pub split_position_none : length differences ≤ mid → n ≡ split_position differences lo mid n
    unfolding split_position
    split_position_none past =
        sym (ap (λ (t : Bool). cond t (parts_at differences lo mid n) n) (le-ltb mid (length differences) past))

module _ (kinds work : List ℕ) (side k i until : ℕ) where
  pub open_position_none : (length work ≡ work_size → length kinds ≤ max_unknowns → until ≤ length kinds → i < max_rows → ⊥)
      → k ≡ open_position kinds work side k i until
  unfolding open_position
  open_position_none out = unless (have_cells kinds work i until) (first_from (is_open kinds work side i) k (until - k)) k (λ e.
      let a = both (eqb (length work) work_size && leb (length kinds) max_unknowns && leb until (length kinds)) (ltb i max_rows) e in
      let b = both (eqb (length work) work_size && leb (length kinds) max_unknowns) (leb until (length kinds)) a.0 in
      let d = both (eqb (length work) work_size) (leb (length kinds) max_unknowns) b.0 in
      out (eqb-true _ _ d.0) (leb-true _ _ d.1) (leb-true _ _ b.1) (ltb-true _ _ a.1))

  pub open_position_is : length work ≡ work_size → length kinds ≤ max_unknowns → until ≤ length kinds → i < max_rows
      → open_position kinds work side k i until ≡ first_from (is_open kinds work side i) k (until - k)
  unfolding open_position
  open_position_is area few within row =
      rw (eq-eqb (length work) work_size area, le-leb (length kinds) max_unknowns few, le-leb until (length kinds) within, lt-ltb i max_rows row)

module _ (differences : List ℕ) (from i : ℕ) where
  pub agreement_none : (i < length differences → (i ≡ from → ⊥) → ⊥) → 0 ≡ agreement_of differences from i
  unfolding agreement_of
  agreement_none out = rw (false_if_not_true (ltb i (length differences) && not (eqb i from)) (λ e.
      let b = both (ltb i (length differences)) (not (eqb i from)) e in
      out (ltb-true i (length differences) b.0) (eqb-false i from (not-true (eqb i from) b.1))))

  pub agreement_is : i < length differences → (i ≡ from → ⊥) → get_or differences i 0 + 1 ≡ agreement_of differences from i
  unfolding agreement_of
  agreement_is high other = rw (lt-ltb i (length differences) high, ne_eqb i from other)

module _ (codes : List ℕ) (start agreement : ℕ) where
  pub is_repeated_past : length codes ≤ start → true ≡ is_repeated codes start agreement
  unfolding is_repeated
  is_repeated_past past = rw (le-ltb start (length codes) past)

  pub is_repeated_is : start < length codes → ltb (get_or codes start 0 / 2) agreement ≡ is_repeated codes start agreement
  unfolding is_repeated
  is_repeated_is high = rw (lt-ltb start (length codes) high)

module _ (kinds work : List ℕ) (side i j : ℕ) where
  pub is_open_own : get_or kinds j 0 ≡ side → i < max_rows → j < max_unknowns → eqb (get_or work (max_unknowns * i + j) 0) 0 ≡ is_open kinds work side i j
  unfolding is_open
  is_open_own own row position =
      rw (eq-eqb (get_or kinds j 0) side own) (sym (ap (λ (x : ℕ). eqb x 0) (level_at i j row position work)))

  pub is_open_other : (get_or kinds j 0 ≡ side → ⊥) → false ≡ is_open kinds work side i j
  unfolding is_open
  is_open_other other = rw (ne_eqb (get_or kinds j 0) side other)

module _ (f : ℕ → Bool) where
  -- ---- downwards, behind lo

  pub last_behind_step : (lo from : ℕ) (b : Bool) → lo < from → f from ≡ b
      → last_behind f lo (from - lo) ≡ cond b from (last_behind f lo (from - 1 - lo))
  last_behind_step lo from b over e =
      let left : from - lo ≡ suc (from - 1 - lo) = omega arith in
      let here : lo + suc (from - 1 - lo) ≡ from = omega arith in
      ap (last_behind f lo) left ∙ ap (λ (x : ℕ). cond (f x) x (last_behind f lo (from - 1 - lo))) here
      ∙ ap (λ (t : Bool). cond t from (last_behind f lo (from - 1 - lo))) e

  pub last_behind_end : (lo from : ℕ) → from ≡ lo → last_behind f lo (from - lo) ≡ from
  last_behind_end lo from e =
      let none : from - lo ≡ 0 = omega arith in
      ap (last_behind f lo) none ∙ sym e

-- ---- the earliest parting

module _ (differences : List ℕ) (lo : ℕ) where
  pub parts_nowhere : (mid n : ℕ) → mid ≤ lo → parts_at differences lo mid n ≡ n
  parts_nowhere mid n none = rw (le-ltb lo mid none)

  pub parts_there : (mid n : ℕ) → lo < mid → parts_at differences lo mid n ≡ min (get_or differences mid 0) n
  parts_there mid n over = rw (lt-ltb lo mid over)

  parts_within : (mid n : ℕ) → parts_at differences lo mid n ≤ n
  parts_within mid n = go (dec_lt lo mid)
    where
      go : Dec (lo < mid) → parts_at differences lo mid n ≤ n
      go (yes lt) = rw (lt-ltb lo mid lt) (omega arith)
      go (no ge) = rw (le-ltb lo mid (omega arith)) (omega arith)

  -- a row that parts earlier than mid parts before 255
  pub parts_earlier : (mid i : ℕ) → lo < i → get_or differences i 0 < parts_at differences lo mid 255 → parts_at differences lo i 255 ≡ get_or differences i 0
  parts_earlier mid i over less =
      let most : parts_at differences lo mid 255 ≤ 255 = parts_within mid 255 in
      let small : min (get_or differences i 0) 255 ≡ get_or differences i 0 = omega arith in
      parts_there i 255 over ∙ small

  -- What is known of the rows before i: the earliest one, and where it parts.
  pub record EarliestTo (i mid least : ℕ) : Type 0 where
    pub is : mid ≡ earliest differences lo (i - (lo + 1))
    pub at : least ≡ parts_at differences lo mid 255
