-- The definitions of Groups have the relations of Parts to the rows. Assumes nothing.
use Prim.Native.Nat.{ℕ, zero, suc, ◌+◌, ◌-◌, ◌≤◌, ◌<◌}
use mathlib.Core.Path.{◌≡◌, refl, ap, ◌∙◌, subst}
use mathlib.Core.Logic.{◌⊎◌, inl, inr}
use mathlib.Core.Bool.{Bool, true, false, ◌&&◌, cond}
use mathlib.Core.List.{List}
use native.Mathlib.Decide.{dec_lt}
use native.Mathlib.Omega.{arith}
use lib.Dec.{ltb, eqb}
use lib.ListN.{length, get_or}
use borrow.Author.Tests.{ltb-true, ltb-false, eqb-true, eqb-false}
use Rattle.formula.specs.Formula.{work_size, max_rows, max_unknowns}
use Rattle.search_cells.specs.Cells.{cells}
use Rattle.search_cells.specs.Steps.{first_from}
use Rattle.search_groups.specs.Groups.{differ_before, last_behind, copy_start, copy_end, parts_at, split_position, earliest, split_row, is_open}
use Rattle.search_groups.specs.Groups.{open_position}
use Rattle.search_groups.specs.Private.Parts.{CopyFrom, CopyTo, SplitRow, SplitPosition, FirstOpen}
use Rattle.search_groups.proofs.ScanLaws.{both, copy_start_is, copy_end_is, split_position_is}
use Rattle.search_groups.proofs.ScanLaws.{split_row_is, open_position_is, parts_nowhere, parts_there}
use Rattle.search_groups.proofs.ScanLaws.{parts_earlier}

-- ---- scans of numbers

-- Of the numbers from low to high, r is the first one for which f is true; high if there is none.
record First (f : ℕ → Bool) (low high r : ℕ) : Type 0 where
  above : low ≤ r
  within : r ≤ high
  passed : (j : ℕ) → low ≤ j → j < r → f j ≡ false
  stops : r < high → f r ≡ true

-- Of the numbers behind low up to high, r is the last one for which f is true; low if there is none.
record Last (f : ℕ → Bool) (low high r : ℕ) : Type 0 where
  above : low ≤ r
  within : r ≤ high
  passed : (j : ℕ) → r < j → j ≤ high → f j ≡ false
  stops : low < r → f r ≡ true

module _ (f : ℕ → Bool) where
  first_more : (n low r : ℕ) → First f (low + 1) (low + 1 + n) r → (b : Bool) → f low ≡ b → First f low (low + suc n) (cond b low r)
  first_more n low r rest true e = record {
    above = omega arith;
    within = omega arith;
    passed = λ j p q. absurd (omega arith);
    stops = λ p. e;
  }
  first_more n low r rest false e = let above = rest.above in let within = rest.within in record {
    above = omega arith;
    within = omega arith;
    passed = λ j p q. go j p q (dec_lt low j);
    stops = λ p. rest.stops (omega arith);
  }
    where
      go : (j : ℕ) → low ≤ j → j < r → Dec (low < j) → f j ≡ false
      go j p q (yes over) = rest.passed j (omega arith) q
      go j p q (no here) = let same : j ≡ low = omega arith in ap f same ∙ e

  first_is : (n low : ℕ) → First f low (low + n) (first_from f low n)
  first_is zero low = record {
    above = omega arith;
    within = omega arith;
    passed = λ j p q. absurd (omega arith);
    stops = λ p. absurd (omega arith);
  }
  first_is (suc n) low = first_more n low (first_from f (low + 1) n) (first_is n (low + 1)) (f low) refl

  last_more : (low n r : ℕ) → Last f low (low + n) r → (b : Bool) → f (low + suc n) ≡ b → Last f low (low + suc n) (cond b (low + suc n) r)
  last_more low n r rest true e = record {
    above = omega arith;
    within = omega arith;
    passed = λ j p q. absurd (omega arith);
    stops = λ p. e;
  }
  last_more low n r rest false e = let within = rest.within in record {
    above = rest.above;
    within = omega arith;
    passed = λ j p q. go j p q (dec_lt j (low + suc n));
    stops = rest.stops;
  }
    where
      go : (j : ℕ) → r < j → j ≤ low + suc n → Dec (j < low + suc n) → f j ≡ false
      go j p q (yes below) = rest.passed j p (omega arith)
      go j p q (no here) = let same : j ≡ low + suc n = omega arith in ap f same ∙ e

  last_is : (low n : ℕ) → Last f low (low + n) (last_behind f low n)
  last_is low zero = record {
    above = omega arith;
    within = omega arith;
    passed = λ j p q. absurd (omega arith);
    stops = λ p. absurd (omega arith);
  }
  last_is low (suc n) = last_more low n (last_behind f low n) (last_is low n) (f (low + suc n)) refl

-- ---- copies

module _ (differences : List ℕ) (k : ℕ) where
  copies_from : (lo i from : ℕ) → Last (differ_before differences k) lo i from → CopyFrom differences k lo i from
  copies_from lo i from x = record {
    low = x.above;
    high = x.within;
    shared = λ h p q. ltb-false (get_or differences h 0) k (x.passed h p q);
    first = λ p. ltb-true (get_or differences from 0) k (x.stops p);
  }

  pub copy_start_from : (lo i : ℕ) → lo ≤ i → i < length differences → CopyFrom differences k lo i (copy_start differences k lo i)
  copy_start_from lo i low high =
      let end : lo + (i - lo) ≡ i = omega arith in
      rw (copy_start_is differences k lo i low high)
      (copies_from lo i (last_behind (differ_before differences k) lo (i - lo))
      (subst (λ (x : ℕ). Last (differ_before differences k) lo x (last_behind (differ_before differences k) lo (i - lo))) end
      (last_is (differ_before differences k) lo (i - lo))))

  copies_to : (i hi to : ℕ) → First (differ_before differences k) (i + 1) hi to → CopyTo differences k i hi to
  copies_to i hi to x = let above = x.above in record {
    low = omega arith;
    high = x.within;
    shared = λ h p q. ltb-false (get_or differences h 0) k (x.passed h (omega arith) q);
    last = λ p. ltb-true (get_or differences to 0) k (x.stops p);
  }

  pub copy_end_to : (i hi : ℕ) → i < hi → hi ≤ length differences → CopyTo differences k i hi (copy_end differences k i hi)
  copy_end_to i hi low high =
      let end : i + 1 + (hi - (i + 1)) ≡ hi = omega arith in
      rw (copy_end_is differences k i hi low high)
      (copies_to i hi (first_from (differ_before differences k) (i + 1) (hi - (i + 1)))
      (subst (λ (x : ℕ). First (differ_before differences k) (i + 1) x (first_from (differ_before differences k) (i + 1) (hi - (i + 1)))) end
      (first_is (differ_before differences k) (hi - (i + 1)) (i + 1))))

-- ---- rows, parted up to row i

-- Of the rows from lo to i, mid is the first that parts earliest from the one before it, at `least`; lo if none parts before 255.
record SplitRowTo (differences : List ℕ) (lo i mid least : ℕ) : Type 0 where
  low : lo ≤ mid
  high : mid < i
  before : (h : ℕ) → lo < h → h < mid → least < get_or differences h 0
  all : (h : ℕ) → lo < h → h < i → least ≤ get_or differences h 0
  there : lo < mid → get_or differences mid 0 ≡ least
  none : mid ≡ lo → least ≡ 255

module _ (differences : List ℕ) (lo : ℕ) where
  split_row_start : SplitRowTo differences lo (lo + 1) lo 255
  split_row_start = record {
    low = omega arith;
    high = omega arith;
    before = λ h p q. absurd (omega arith);
    all = λ h p q. absurd (omega arith);
    there = λ p. absurd (omega arith);
    none = λ e. refl;
  }

  split_row_earlier : (i mid least : ℕ) → lo < i → get_or differences i 0 < least → SplitRowTo differences lo i mid least → SplitRowTo differences lo (i + 1)
      i (get_or differences i 0)
  split_row_earlier i mid least over less x = record {
    low = omega arith;
    high = omega arith;
    before = λ h p q. let z : least ≤ get_or differences h 0 = x.all h p q in omega arith;
    all = λ h p q. go h p q (dec_lt h i);
    there = λ p. refl;
    none = λ e. absurd (omega arith);
  }
    where
      go : (h : ℕ) → lo < h → h < i + 1 → Dec (h < i) → get_or differences i 0 ≤ get_or differences h 0
      go h p q (yes lt) = let z : least ≤ get_or differences h 0 = x.all h p lt in omega arith
      go h p q (no n) = let same : i ≡ h = omega arith in subst (λ (y : ℕ). get_or differences i 0 ≤ get_or differences y 0) same (omega arith)

  split_row_later : (i mid least : ℕ) → least ≤ get_or differences i 0 → SplitRowTo differences lo i mid least → SplitRowTo differences lo (i + 1) mid least
  split_row_later i mid least more x = record {
    low = x.low;
    high = let z : mid < i = x.high in omega arith;
    before = x.before;
    all = λ h p q. go h p q (dec_lt h i);
    there = x.there;
    none = x.none;
  }
    where
      go : (h : ℕ) → lo < h → h < i + 1 → Dec (h < i) → least ≤ get_or differences h 0
      go h p q (yes lt) = x.all h p lt
      go h p q (no n) = let same : i ≡ h = omega arith in subst (λ (y : ℕ). least ≤ get_or differences y 0) same more

  split_row_end : (hi i mid least : ℕ) → hi ≤ i → mid < hi → SplitRowTo differences lo i mid least → SplitRow differences lo hi mid
  split_row_end hi i mid least past below x = record {
    low = x.low;
    high = below;
    before = λ h p q.
        let z : least < get_or differences h 0 = x.before h p q in
        let y : get_or differences mid 0 ≡ least = x.there (omega arith) in
        omega arith;
    behind = λ over h p q.
        let z : least ≤ get_or differences h 0 = x.all h (omega arith) (omega arith) in
        let y : get_or differences mid 0 ≡ least = x.there over in
        omega arith;
    alone = λ e h p q.
        let z : least ≤ get_or differences h 0 = x.all h p (omega arith) in
        let y : least ≡ 255 = x.none e in
        omega arith;
  }

  -- i is the row behind those passed
  split_row_more : (i mid : ℕ) (b : Bool) → lo < i → ltb (get_or differences i 0) (parts_at differences lo mid 255) ≡ b
      → SplitRowTo differences lo i mid (parts_at differences lo mid 255) → SplitRowTo differences lo (i + 1) (cond b i mid)
      (parts_at differences lo (cond b i mid) 255)
  split_row_more i mid true over e x =
      let less = ltb-true (get_or differences i 0) (parts_at differences lo mid 255) e in
      rw (parts_earlier differences lo mid i over less) (split_row_earlier i mid (parts_at differences lo mid 255) over less x)
  split_row_more i mid false over e x =
      split_row_later i mid (parts_at differences lo mid 255) (ltb-false (get_or differences i 0) (parts_at differences lo mid 255) e) x

  earliest_is : (n : ℕ) → SplitRowTo differences lo (lo + suc n) (earliest differences lo n) (parts_at differences lo (earliest differences lo n) 255)
  earliest_is zero = rw (parts_nowhere differences lo lo 255 (omega arith)) split_row_start
  earliest_is (suc n) =
      let next : lo + suc n + 1 ≡ lo + suc (suc n) = omega arith in
      subst (λ (i : ℕ). SplitRowTo differences lo i (earliest differences lo (suc n)) (parts_at differences lo (earliest differences lo (suc n)) 255)) next
      (split_row_more (lo + suc n) (earliest differences lo n) _ (omega arith) refl (earliest_is n))

  pub split_row_parts : (hi : ℕ) → lo < hi → hi ≤ length differences → SplitRow differences lo hi (split_row differences lo hi)
  split_row_parts hi low high =
      let end : lo + suc (hi - (lo + 1)) ≡ hi = omega arith in
      let x = earliest_is (hi - (lo + 1)) in
      let below = x.high in
      rw (split_row_is differences lo hi low high)
      (split_row_end hi (lo + suc (hi - (lo + 1))) (earliest differences lo (hi - (lo + 1)))
      (parts_at differences lo (earliest differences lo (hi - (lo + 1))) 255)
      (omega arith) (omega arith) x)

  pub split_position_there : (mid n : ℕ) → mid < length differences → SplitPosition differences lo mid n (split_position differences lo mid n)
  split_position_there mid n high = rw (split_position_is differences lo mid n high) (go (dec_lt lo mid))
    where
      go : Dec (lo < mid) → SplitPosition differences lo mid n (parts_at differences lo mid n)
      go (yes over) = rw (parts_there differences lo mid n over) (record {
        most = omega arith;
        first = λ p. omega arith;
        there = λ p. (over, omega arith);
      })
      go (no none) = rw (parts_nowhere differences lo mid n (omega arith)) (record {
        most = omega arith;
        first = λ p. absurd (omega arith);
        there = λ p. absurd (omega arith);
      })

-- ---- positions that stand

module _ (kinds w : List ℕ) (side lo : ℕ) where
  open_only : (j : ℕ) → is_open kinds w side lo j ≡ true → (eqb (get_or kinds j 0) side ≡ true) × ((cells w).level lo j ≡ 0)
  unfolding is_open
  open_only j e =
      let t = both (eqb (get_or kinds j 0) side) (eqb ((cells w).level lo j) 0) e in
      (t.0, eqb-true ((cells w).level lo j) 0 t.1)

  closed : (j : ℕ) → is_open kinds w side lo j ≡ false → (eqb (get_or kinds j 0) side ≡ false) ⊎ (0 < (cells w).level lo j)
  unfolding is_open
  closed j = go (eqb (get_or kinds j 0) side)
    where
      go : (b : Bool) → (b && eqb ((cells w).level lo j) 0) ≡ false → (b ≡ false) ⊎ (0 < (cells w).level lo j)
      go true e = let other = eqb-false ((cells w).level lo j) 0 e in inr (omega arith)
      go false e = inl refl

  stands : (k until at : ℕ) → k ≤ length kinds → until ≤ length kinds → First (is_open kinds w side lo) k (k + (until - k)) at
      → FirstOpen kinds w side k lo until at
  stands k until at known within x = let above = x.above in let most = x.within in record {
    low = above;
    most = omega arith;
    high = λ p. omega arith;
    passed = λ j p q. closed j (x.passed j p q);
    stops = λ p. open_only at (x.stops (omega arith));
  }

module _ (kinds w : List ℕ) (side k lo until : ℕ) where
  pub open_position_is_first : length w ≡ work_size → length kinds ≤ max_unknowns → until ≤ length kinds → k ≤ length kinds → lo < max_rows
      → FirstOpen kinds w side k lo until (open_position kinds w side k lo until)
  open_position_is_first area few within known row =
      rw (open_position_is kinds w side k lo until area few within row)
      (stands kinds w side lo k until (first_from (is_open kinds w side lo) k (until - k)) known within (first_is (is_open kinds w side lo) (until - k) k))
