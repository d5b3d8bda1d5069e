-- Bits set one by one in sixteen zero bytes: the bytes of a row that has these values. Assumes nothing.
use Prim.Native.Nat.{ℕ, zero, suc, ◌+◌, ◌*◌, ◌/◌, ◌%◌, ◌^◌, ◌≤◌, ◌<◌}
use native.Mathlib.Omega.{arith}
use native.Mathlib.Decide.{dec_lt, ℕ_discrete}
use native.Mathlib.Nat.{zero-div}
use mathlib.Core.Path.{◌≡◌, refl, sym, ap, subst, ◌∙◌}
use mathlib.Core.Bool.{Bool, true, false, cond, ◌&&◌, ◌||◌, or-false}
use mathlib.Core.List.{List, [], ◌∷◌}
use lib.Bits.{bit_or, or_lt}
use lib.Dec.{eqb, ltb}
use lib.Pow.{pow-lt}
use lib.ListN.{length, get_or, set, replicate, get_or-eq_default}
use lib.Seq.{ext_get_or, take_all}
use borrow.Author.Tests.{lt-ltb, le-ltb, eq-eqb, ne_eqb}
use Rattle.rows.specs.Stray.{row_bits}
use Rattle.rows.specs.Row.{bit_of, values, row_of, bytes_of}
use Rattle.rows.specs.Table.{inside, row_at}
use Rattle.rows.specs.Access.{bit_set}
use Rattle.rows.proofs.ValueLaws.{length_values, get_or_values}
use Rattle.rows.proofs.RowLaws.{IsRow, length_bytes_of, bytes_of_below, bit_bytes_of, get_or_row_of, length_row_of, none_stray, equal_values_equal_bytes}
use Rattle.rows.proofs.TableLaws.{row_at_inside}
use Rattle.rows.proofs.WriteLaws.{bit_set_inside, bit_of_bit_set}
use Rattle.growth.specs.Growth.{with_preferred}
use Rattle.growth.proofs.CountLaws.{length_bit_set}

-- Value q of the preferred ones.
value_preferred : (k : ℕ) (f : ℕ → Bool) (q : ℕ) → Dec (q < k) → ltb q k && f q ≡ get_or (values k f) q false
value_preferred k f q (yes h) = ap (λ (v : Bool). v && f q) (lt-ltb q k h) ∙ sym (get_or_values k f q h)
value_preferred k f q (no h) =
    ap (λ (v : Bool). v && f q) (le-ltb q k (omega arith))
    ∙ sym (get_or-eq_default (values k f) false (omega (arith, length_values k f)))

pub row_whole : (row : List ℕ) → length row ≡ 16 → row_at row 0 ≡ row
row_whole row h = row_at_inside row 0 (omega arith) ∙ take_all 16 row (omega arith)

get_or_zeros : (n p : ℕ) → ◌≡◌ {A = ℕ} (get_or (replicate n 0) p 0) 0
get_or_zeros zero p = refl
get_or_zeros (suc n) zero = refl
get_or_zeros (suc n) (suc p) = get_or_zeros n p

no_bits : (q : ℕ) → bit_of (replicate 16 0) q ≡ false
unfolding bit_of
no_bits q = ap (λ (x : ℕ). eqb (x / 2 ^ (q % 8) % 2) 1) (get_or_zeros 16 (q / 8)) ∙ ap (λ (x : ℕ). eqb (x % 2) 1) (zero-div (2 ^ (q % 8)))

-- A bit set or not: the bytes stay bytes, and bit k is set if it was to be.
set_below : (l : List ℕ) (i v : ℕ) → v < 256 → ((q : ℕ) → get_or l q 0 < 256) → (q : ℕ) → get_or (set l i v) q 0 < 256
set_below [] i v hv hl q = hl q
set_below (y ∷ l) zero v hv hl zero = hv
set_below (y ∷ l) zero v hv hl (suc q) = hl (suc q)
set_below (y ∷ l) (suc i) v hv hl zero = hl zero
set_below (y ∷ l) (suc i) v hv hl (suc q) = set_below l i v hv (λ p. hl (suc p)) q

bit_set_below : (row : List ℕ) (k : ℕ) → 16 ≤ length row → k < row_bits → ((q : ℕ) → get_or row q 0 < 256) → (v : Bool) (p : ℕ)
    → get_or (cond v (bit_set row 0 k) row) p 0 < 256
bit_set_below row k long h below true p =
    let byte = bit_or (get_or row (16 * 0 + k / 8) 0) (2 ^ (k % 8)) in
    let small : byte < 256 = or_lt 8 (get_or row (16 * 0 + k / 8) 0) (2 ^ (k % 8)) (below (16 * 0 + k / 8)) (pow-lt {i = k % 8} {j = 8} (omega arith)) in
    subst (λ (l : List ℕ). get_or l p 0 < 256) (sym (bit_set_inside row 0 k (omega arith) h)) (set_below row (16 * 0 + k / 8) byte small below p)
bit_set_below row k long h below false p = below p

and_false : (v : Bool) → v && false ≡ false
and_false true = refl
and_false false = refl

bit_of_next : (row : List ℕ) (k q : ℕ) → length row ≡ 16 → k < row_bits → q < row_bits → (v : Bool) →
    bit_of (cond v (bit_set row 0 k) row) q ≡ bit_of row q || (v && eqb k q)
bit_of_next row k q long h hq true =
    let set_long : length (bit_set row 0 k) ≡ 16 = length_bit_set row 0 k ∙ long in
    ap (λ (b : List ℕ). bit_of b q) (sym (row_whole (bit_set row 0 k) set_long))
    ∙ bit_of_bit_set row 0 k (omega arith) h q hq
    ∙ ap (λ (b : List ℕ). bit_of b q || eqb k q) (row_whole row long)
bit_of_next row k q long h hq false = sym (or-false (bit_of row q))

-- A row has no bit from 128 on.
no_such_bit : (row : List ℕ) (k : ℕ) → row_bits ≤ k → (v : Bool) → cond v (bit_set row 0 k) row ≡ row
unfolding bit_set
no_such_bit row k h true =
    let place = 16 * 0 + k / 8 in
    ap (λ (b : Bool). cond b (set row place (bit_or (get_or row place 0) (2 ^ (k % 8)))) row)
    (ap (λ (v : Bool). inside row 0 && v) (le-ltb k row_bits h) ∙ and_false (inside row 0))
no_such_bit row k h false = refl

same_test : (q k : ℕ) → (q ≡ k → ⊥) → Dec (q < k) → ltb q k ≡ ltb q (suc k)
same_test q k differ (yes b) = lt-ltb q k b ∙ sym (lt-ltb q (suc k) (omega arith))
same_test q k differ (no b) = le-ltb q k (omega arith) ∙ sym (le-ltb q (suc k) (omega arith))

passed : (f : ℕ → Bool) (k q : ℕ) → Dec (q ≡ k) → ((ltb q k && f q) || (f k && eqb k q)) ≡ ltb q (suc k) && f q
passed f k q (yes same) =
    ap (λ (v : Bool). (v && f q) || (f k && eqb k q)) (le-ltb q k (omega arith))
    ∙ ap (λ (v : Bool). f k && v) (eq-eqb k q (sym same))
    ∙ and_true (f k)
    ∙ ap f (sym same)
    ∙ sym (ap (λ (v : Bool). v && f q) (lt-ltb q (suc k) (omega arith)))
  where
    and_true : (v : Bool) → v && true ≡ v
    and_true true = refl
    and_true false = refl
passed f k q (no differ) =
    ap (λ (w : Bool). (ltb q k && f q) || (f k && w)) (ne_eqb k q (omega arith))
    ∙ ap (λ (w : Bool). (ltb q k && f q) || w) (and_false (f k))
    ∙ or-false (ltb q k && f q)
    ∙ ap (λ (w : Bool). w && f q) (same_test q k differ (dec_lt q k))

module _ (f : ℕ → Bool) where
  length_with_preferred : (k : ℕ) (row : List ℕ) → length (with_preferred f k row) ≡ length row
  length_with_preferred zero row = refl
  length_with_preferred (suc k) row = go (f k) (length_with_preferred k row)
    where
      go : (v : Bool) → length (with_preferred f k row) ≡ length row
          → length (cond v (bit_set (with_preferred f k row) 0 k) (with_preferred f k row)) ≡ length row
      go true e = length_bit_set (with_preferred f k row) 0 k ∙ e
      go false e = e

  -- The bytes stay bytes.
  below_256 : (k p : ℕ) → get_or (with_preferred f k (replicate 16 0)) p 0 < 256
  below_256 zero p = omega (arith, get_or_zeros 16 p)
  below_256 (suc k) p = go (dec_lt k row_bits) (below_256 k)
    where
      go : Dec (k < row_bits) → ((q : ℕ) → get_or (with_preferred f k (replicate 16 0)) q 0 < 256) → get_or (with_preferred f (suc k) (replicate 16 0)) p 0 < 256
      go (yes h) below =
          bit_set_below (with_preferred f k (replicate 16 0)) k (omega (arith, length_with_preferred k (replicate 16 0))) h below (f k) p
      go (no h) below =
          subst (λ (row : List ℕ). get_or row p 0 < 256) (sym (no_such_bit (with_preferred f k (replicate 16 0)) k (omega arith) (f k))) (below p)

  -- Bit q is set if it is passed and preferred.
  bit_preferred : (k q : ℕ) → q < row_bits → bit_of (with_preferred f k (replicate 16 0)) q ≡ ltb q k && f q
  bit_preferred zero q hq = no_bits q ∙ ap (λ (v : Bool). v && f q) (sym (le-ltb q 0 (omega arith)))
  bit_preferred (suc k) q hq = go (dec_lt k row_bits) (bit_preferred k q hq)
    where
      go : Dec (k < row_bits) → bit_of (with_preferred f k (replicate 16 0)) q ≡ ltb q k && f q
          → bit_of (with_preferred f (suc k) (replicate 16 0)) q ≡ ltb q (suc k) && f q
      go (yes h) before =
          bit_of_next (with_preferred f k (replicate 16 0)) k q (length_with_preferred k (replicate 16 0)) h hq (f k)
          ∙ ap (λ (v : Bool). v || (f k && eqb k q)) before
          ∙ passed f k q (ℕ_discrete q k)
      go (no h) before =
          ap (λ (row : List ℕ). bit_of row q) (no_such_bit (with_preferred f k (replicate 16 0)) k (omega arith) (f k))
          ∙ before
          ∙ ap (λ (v : Bool). v && f q) (same_test q k (omega arith) (dec_lt q k))

  is_row_128 : (b : List ℕ) → length b ≡ 16 → ((p : ℕ) → get_or b p 0 < 256) → IsRow row_bits b
  is_row_128 b long below = record { width = long; below = below; clean = none_stray row_bits b (λ k low high. absurd (omega arith)) }

  pub preferred_bytes : (m : ℕ) → with_preferred f m (replicate 16 0) ≡ bytes_of (values m f)
  preferred_bytes m =
      let row = with_preferred f m (replicate 16 0) in
      let goal = bytes_of (values m f) in
      equal_values_equal_bytes row_bits row goal
      (is_row_128 row (length_with_preferred m (replicate 16 0)) (below_256 m))
      (is_row_128 goal (length_bytes_of (values m f)) (bytes_of_below (values m f)))
      (ext_get_or false (row_of row_bits row) (row_of row_bits goal) (length_row_of row_bits row ∙ sym (length_row_of row_bits goal)) (λ q below.
      let hq : q < row_bits = omega (arith, length_row_of row_bits row) in
      get_or_row_of row_bits row q hq
      ∙ bit_preferred m q hq
      ∙ value_preferred m f q (dec_lt q m)
      ∙ sym (bit_bytes_of (values m f) q hq)
      ∙ sym (get_or_row_of row_bits goal q hq)))
