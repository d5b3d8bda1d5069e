-- The copies at an own unknown are the rows that its restriction tells from each earlier row, so the numbers of a table count them all.
-- Assumes nothing.
use Prim.Native.Nat.{ℕ, zero, suc, ◌+◌, ◌*◌, ◌≤◌, ◌<◌}
use native.Mathlib.Nat.{add-zero}
use native.Mathlib.Numerals.{add-one}
use native.Mathlib.Omega.{arith}
use mathlib.Core.Path.{◌≡◌, refl, sym, ap, ap₂, subst, ◌∙◌}
use mathlib.Core.Bool.{Bool, true, false, not, beq}
use mathlib.Core.List.{List, [], ◌∷◌, ◌++◌, map}
use mathlib.Core.Logic.{inr}
use lib.Dec.{eqb, leb, eqb-suc-zero}
use lib.ListN.{length, get_or, take, drop, length-map, length-append}
use lib.Seq.{ext_get_or, get_or-take, length-take-le}
use borrow.Author.Tests.{leb-true, leb-false}
use Rattle.formula.specs.Formula.{max_unknowns, max_rows, Kind, existential, universal, kind_of, prefix}
use Rattle.formula.specs.Causes.{count}
use Rattle.rows.specs.Row.{weight, row_of}
use Rattle.rows.specs.Table.{row_at, room, rows_of}
use Rattle.rows.proofs.RowLaws.{length_row_of, get_or_row_of}
use Rattle.rows.proofs.TableLaws.{length_rows_of, get_or_rows_of, rows_of_next}
use Rattle.expansion.specs.Side.{own, flags}
use Rattle.expansion.specs.OtherSide.{side_of, other}
use Rattle.expansion.specs.Play.{Row, restriction}
use Rattle.expansion.specs.Copies.{fresh, copy_at, copies_at, copies_from, copies}
use Rattle.expansion.specs.Cells.{others_before}
use Rattle.expansion.proofs.Membership.{In, in_of_place, place_of_in, in_map, in_map_cases}
use Rattle.expansion.proofs.FreshLaws.{fresh_old, fresh_new}
use Rattle.forecast.specs.Outcome.{width, lent_rows, copies_over}
use Rattle.forecast.specs.Private.Starts.{Alike, Told, within, summed}
use Rattle.forecast.proofs.StartLaws.{alike_fewer}

-- ---- restrictions

-- A restriction is the start of the row.
restricted : (ts : List Bool) (k : ℕ) (row : Row) → others_before ts k ≤ length row → restriction ts k row ≡ take (others_before ts k) row
restricted ts zero row h = refl
restricted [] (suc k) row h = refl
restricted (true ∷ ts) (suc k) row h = restricted ts k row h
restricted (false ∷ ts) (suc k) [] h = absurd (omega arith)
restricted (false ∷ ts) (suc k) (b ∷ row) h = ap (λ (l : Row). b ∷ l) (restricted ts k row (omega arith))

map_append : (f : Row → Row) (xs ys : List Row) → map f (xs ++ ys) ≡ map f xs ++ map f ys
map_append f [] ys = refl
map_append f (x ∷ xs) ys = ap (λ (l : List Row). f x ∷ l) (map_append f xs ys)

module _ (m : ℕ) (b : ℕ) (few : b ≤ m) (row other : List ℕ) where
  -- Starts are equal exactly if the bits agree.
  same_start : Alike row other b → take b (row_of m row) ≡ take b (row_of m other)
  same_start alike =
      let wide : (bytes : List ℕ) → length (take b (row_of m bytes)) ≡ b = λ bytes. length-take-le b (row_of m bytes) (omega (arith, length_row_of m bytes)) in
      ext_get_or false (take b (row_of m row)) (take b (row_of m other)) (wide row ∙ sym (wide other)) (λ k h.
      let below : k < b = omega (arith, wide row) in
      get_or-take b (row_of m row) k false below
      ∙ get_or_row_of m row k (omega arith)
      ∙ alike k below
      ∙ sym (get_or_row_of m other k (omega arith))
      ∙ sym (get_or-take b (row_of m other) k false below))

  start_alike : take b (row_of m row) ≡ take b (row_of m other) → Alike row other b
  start_alike e k below =
      sym (get_or_row_of m row k (omega arith))
      ∙ sym (get_or-take b (row_of m row) k false below)
      ∙ ap (λ (l : Row). get_or l k false) e
      ∙ get_or-take b (row_of m other) k false below
      ∙ get_or_row_of m other k (omega arith)

-- ---- the rows that are told from those before

module _ (t numbers : List ℕ) (ts : List Bool) (m k : ℕ) (few : others_before ts k ≤ m) (own : m ≤ max_unknowns) where
  abbrev seen : ℕ → List Row
  seen n = map (restriction ts k) (rows_of m n t)

  abbrev next : ℕ → Row
  next n = restriction ts k (row_of m (row_at t n))

  start_of : (n : ℕ) → next n ≡ take (others_before ts k) (row_of m (row_at t n))
  start_of n = restricted ts k (row_of m (row_at t n)) (omega (arith, length_row_of m (row_at t n)))

  row_in : (n q : ℕ) → q < n → n ≤ room t → get_or (rows_of m n t) q [] ≡ row_of m (row_at t q)
  row_in n q h into = get_or_rows_of m n t q h (omega arith)

  in_seen : (n q : ℕ) → q < n → n ≤ room t → Alike (row_at t n) (row_at t q) (others_before ts k) → In (next n) (seen n)
  in_seen n q h into alike =
      let stands : In (get_or (rows_of m n t) q []) (rows_of m n t) = in_of_place (rows_of m n t) q [] (omega (arith, length_rows_of m n t)) in
      let here : In (row_of m (row_at t q)) (rows_of m n t) = subst (λ (r : Row). In r (rows_of m n t)) (row_in n q h into) stands in
      let same : next q ≡ next n = start_of q ∙ sym (same_start m (others_before ts k) few (row_at t n) (row_at t q) alike) ∙ sym (start_of n) in
      subst (λ (r : Row). In r (seen n)) same (in_map (restriction ts k) (row_of m (row_at t q)) (rows_of m n t) here)

  seen_alike : (n : ℕ) → n ≤ room t → In (next n) (seen n) → (q : ℕ) × (q < n) × Alike (row_at t n) (row_at t q) (others_before ts k)
  seen_alike n into h =
      let (r, same, stands) = in_map_cases (restriction ts k) (next n) (rows_of m n t) h in
      let (q, below, here) = place_of_in r (rows_of m n t) [] stands in
      let earlier : q < n = omega (arith, length_rows_of m n t) in
      let equal : next n ≡ next q = same ∙ ap (restriction ts k) (sym here ∙ row_in n q earlier into) in
      (q, earlier, start_alike m (others_before ts k) few (row_at t n) (row_at t q) (sym (start_of n) ∙ equal ∙ start_of q))

  seen_next : (n : ℕ) → n < room t → seen (suc n) ≡ seen n ++ (next n ∷ [])
  seen_next n h = ap (map (restriction ts k)) (rows_of_next m n t h) ∙ map_append (restriction ts k) (rows_of m n t) (row_of m (row_at t n) ∷ [])

  told_fresh : (n : ℕ) → n ≤ room t → Told t numbers n → length (fresh [] (seen n)) ≡ within numbers (others_before ts k) n
  told_fresh zero h told = refl
  told_fresh (suc n) h told =
      let before = told_fresh n (omega arith) (λ i below. told i (omega arith)) in
      ap (λ (l : List Row). length (fresh [] l)) (seen_next n h) ∙ go before (leb (get_or numbers n 0) (others_before ts k)) refl
    where
      go : length (fresh [] (seen n)) ≡ within numbers (others_before ts k) n → (v : Bool) → leb (get_or numbers n 0) (others_before ts k) ≡ v
          → length (fresh [] (seen n ++ (next n ∷ []))) ≡ within numbers (others_before ts k) n + weight v
      go before true e =
          let enough = leb-true (get_or numbers n 0) (others_before ts k) e in
          let unseen : In (next n) (seen n) → ⊥ = λ l.
          let (q, earlier, alike) = seen_alike n (omega arith) l in
          (told n (omega arith)).enough (omega arith) q earlier (alike_fewer (row_at t n) (row_at t q) (get_or numbers n 0) (others_before ts k) enough
          alike) in
          ap length (fresh_new (next n) [] (seen n) (λ l. l) unseen)
          ∙ length-append (fresh [] (seen n)) (next n ∷ [])
          ∙ ap (λ (x : ℕ). x + 1) before
      go before false e =
          let more = leb-false (get_or numbers n 0) (others_before ts k) e in
          let (q, earlier, alike) = (told n (omega arith)).fewest (others_before ts k) more in
          ap length (fresh_old (next n) [] (seen n) (inr (in_seen n q earlier (omega arith) alike))) ∙ before ∙ sym
          (add-zero (within numbers (others_before ts k) n))

  pub told_copies_at : (n : ℕ) → n ≤ room t → Told t numbers n → length (copies_at ts (rows_of m n t) k) ≡ within numbers (others_before ts k) n
  told_copies_at n h told = length-map (fresh [] (seen n)) (copy_at k) ∙ told_fresh n h told

-- ---- all own unknowns

-- One position more: an own one counts nothing, another one counts.
abbrev past : Bool → ℕ → ℕ
past true b = b
past false b = b + 1

next_position : (ts : List Bool) (k : ℕ) (v : Bool) (left : List Bool) → drop k ts ≡ v ∷ left
    → (others_before ts (suc k) ≡ past v (others_before ts k)) × (drop (suc k) ts ≡ left)
next_position [] zero v left e = let z : ◌≡◌ {A = ℕ} 0 1 = cc in absurd (omega arith)
next_position [] (suc k) v left e = let z : ◌≡◌ {A = ℕ} 0 1 = cc in absurd (omega arith)
next_position (true ∷ ts) zero true left e = (refl, cc)
next_position (true ∷ ts) zero false left e = let z : ◌≡◌ {A = ℕ} 0 1 = cc in absurd (omega arith)
next_position (false ∷ ts) zero true left e = let z : ◌≡◌ {A = ℕ} 0 1 = cc in absurd (omega arith)
next_position (false ∷ ts) zero false left e = (refl, cc)
next_position (true ∷ ts) (suc k) v left e = next_position ts k v left e
next_position (false ∷ ts) (suc k) true left e = let h = next_position ts k true left e in (ap suc h.0, h.1)
next_position (false ∷ ts) (suc k) false left e = let h = next_position ts k false left e in (omega (arith, h.0), h.1)

module _ (ts : List Bool) (rows : List Row) (new : ℕ → ℕ) (each : (k : ℕ) → length (copies_at ts rows k) ≡ new (others_before ts k)) where
  summed_copies : (k : ℕ) (left : List Bool) → drop k ts ≡ left → length (copies_from ts rows k left) ≡ summed new (others_before ts k) left
  summed_copies k [] e = refl
  summed_copies k (true ∷ left) e =
      let (same, later) = next_position ts k true left e in
      length-append (copies_at ts rows k) (copies_from ts rows (suc k) left)
      ∙ ap₂ ◌+◌ (each k) (summed_copies (suc k) left later ∙ ap (λ (b : ℕ). summed new b left) same)
  summed_copies k (false ∷ left) e =
      let (same, later) = next_position ts k false left e in
      summed_copies (suc k) left later ∙ ap (λ (b : ℕ). summed new b left) same

-- No more of a kind's unknowns stand before a position than there are.
others_most : (kind : Kind) (ks : List Kind) (k : ℕ) → others_before (flags (other kind) ks) k ≤ count kind ks
others_most kind ks zero = omega arith
others_most kind [] (suc k) = omega arith
others_most existential (existential ∷ ks) (suc k) = let h = others_most existential ks k in omega arith
others_most existential (universal ∷ ks) (suc k) = others_most existential ks k
others_most universal (existential ∷ ks) (suc k) = others_most universal ks k
others_most universal (universal ∷ ks) (suc k) = let h = others_most universal ks k in omega arith

count_most : (kind : Kind) (ks : List Kind) → count kind ks ≤ length ks
count_most kind [] = omega arith
count_most existential (existential ∷ ks) = let h = count_most existential ks in omega arith
count_most existential (universal ∷ ks) = let h = count_most existential ks in omega arith
count_most universal (existential ∷ ks) = let h = count_most universal ks in omega arith
count_most universal (universal ∷ ks) = let h = count_most universal ks in omega arith

module _ (kinds t numbers : List ℕ) (n : ℕ) (few : length kinds ≤ max_unknowns) (into : n ≤ room t) (told : Told t numbers n) where
  told_copies : (kind : Kind) → copies_over kind kinds t n ≡ summed (λ b. within numbers b n) 0 (flags (other kind) (prefix kinds))
  unfolding copies_over copies
  told_copies kind =
      summed_copies (flags (other kind) (prefix kinds)) (lent_rows kind kinds t n) (λ b. within numbers b n)
      (λ k. told_copies_at t numbers (flags (other kind) (prefix kinds)) (width kind kinds) k (others_most kind (prefix kinds) k)
      (omega (arith, count_most kind (prefix kinds), length-map kinds kind_of)) n into told)
      zero (flags (other kind) (prefix kinds)) refl

  -- As the code has it: the side whose copies they are by a flag.
  pub copies_told : (universal? : Bool) →
      copies_over (other (side_of universal?)) kinds t n ≡ summed (λ b. within numbers b n) 0 (flags (side_of universal?) (prefix kinds))
  copies_told true = told_copies existential
  copies_told false = told_copies universal

-- ---- the sum, one unknown more at a time

-- The test that the code makes of a kind.
own_kind : (universal? : Bool) (kind : ℕ) → beq (not (eqb kind 0)) universal? ≡ own (side_of universal?) (kind_of kind)
own_kind true zero = refl
own_kind true (suc kind) = rw (eqb-suc-zero kind)
own_kind false zero = refl
own_kind false (suc kind) = rw (eqb-suc-zero kind)

drop_flags : (side : Kind) (kinds : List ℕ) (k : ℕ) → k < length kinds
    → drop k (flags side (prefix kinds)) ≡ own side (kind_of (get_or kinds k 0)) ∷ drop (suc k) (flags side (prefix kinds))
drop_flags side [] k h = absurd (omega arith)
drop_flags side (x ∷ kinds) zero h = refl
drop_flags side (x ∷ kinds) (suc k) h = drop_flags side kinds k (omega arith)

-- What stands to be added from position k on, and the total before it.
pub record Adding (kinds : List ℕ) (universal? : Bool) (numbers : List ℕ) (n total before k : ℕ) : Type 0 where
  pub inside : k ≤ length kinds
  pub fewer : before ≤ k
  pub small : total ≤ max_rows * k
  pub left : total + summed (λ b. within numbers b n) before (drop k (flags (side_of universal?) (prefix kinds))) ≡ summed (λ b. within numbers b n) 0
      (flags (side_of universal?) (prefix kinds))

module _ (kinds : List ℕ) (universal? : Bool) (numbers : List ℕ) (n : ℕ) where
  abbrev ts : List Bool
  ts = flags (side_of universal?) (prefix kinds)

  abbrev rest : ℕ → List Bool → ℕ
  rest = summed (λ b. within numbers b n)

  flag_at : (k : ℕ) (v : Bool) → k < length kinds → beq (not (eqb (get_or kinds k 0) 0)) universal? ≡ v → drop k ts ≡ v ∷ drop (k + 1) ts
  flag_at k v h e =
      drop_flags (side_of universal?) kinds k h
      ∙ ap₂ (λ (u : Bool) (l : List Bool). u ∷ l) (sym (own_kind universal? (get_or kinds k 0)) ∙ e) (ap (λ (i : ℕ). drop i ts) (sym (add-one k)))

  module _ (total before k : ℕ) (so_far : Adding kinds universal? numbers n total before k) (h : k < length kinds) where
    pub adding_own : (r : ℕ) → beq (not (eqb (get_or kinds k 0) 0)) universal? ≡ true → r ≡ within numbers before n → r ≤ max_rows
        → Adding kinds universal? numbers n (total + r) before (k + 1)
    adding_own r e same small =
        let here : rest before (drop k ts) ≡ within numbers before n + rest before (drop (k + 1) ts) = ap (rest before) (flag_at k true h e) in
        record { inside = omega arith; fewer = omega (arith, so_far.fewer); small = omega (arith, so_far.small); left = omega (arith, so_far.left) }

    pub adding_other : beq (not (eqb (get_or kinds k 0) 0)) universal? ≡ false → Adding kinds universal? numbers n total (before + 1) (k + 1)
    adding_other e =
        let here : rest before (drop k ts) ≡ rest (before + 1) (drop (k + 1) ts) = ap (rest before) (flag_at k false h e) in
        record { inside = omega arith; fewer = omega (arith, so_far.fewer); small = omega (arith, so_far.small); left = omega (arith, so_far.left) }
