-- Laws of shared starts: what two bytes tell of two rows, and the bits that tell a row from those before it, one row more at a time.
-- Assumes nothing.
use Prim.Native.Nat.{ℕ, ◌+◌, ◌*◌, ◌/◌, ◌%◌, ◌^◌, ◌≤◌, ◌<◌, max}
use native.Mathlib.Decide.{dec_lt}
use native.Mathlib.Omega.{arith}
use mathlib.Core.Path.{◌≡◌, refl, sym, ap, subst, ◌∙◌}
use mathlib.Core.Bool.{Bool, true, false}
use mathlib.Core.List.{List}
use mathlib.Core.Logic.{◌≢◌}
use lib.Dec.{eqb}
use lib.ListN.{length, get_or, set}
use lib.Seq.{get_or-set_same, get_or-set_other}
use borrow.Author.Tests.{eqb-true, eqb-false}
use Rattle.rows.specs.Row.{bit_of}
use Rattle.rows.specs.Stray.{row_bits}
use Rattle.rows.specs.Table.{row_at, room}
use Rattle.rows.proofs.BitLaws.{bits_determine}
use Rattle.rows.proofs.RowLaws.{bit_in_byte}
use Rattle.rows.proofs.TableLaws.{get_or_row_at}
use Rattle.forecast.specs.Private.Starts.{AlikeBits, Alike, Shared, Tells, Told}

-- ---- two rows

-- Bit s of byte p of row i.
bit_at : (t : List ℕ) (i p s : ℕ) → i < room t → p < 16 → s < 8 → bit_of (row_at t i) (8 * p + s) ≡ eqb (get_or t (16 * i + p) 0 / 2 ^ s % 2) 1
bit_at t i p s hi hp hs = bit_in_byte (row_at t i) p s hs ∙ ap (λ (x : ℕ). eqb (x / 2 ^ s % 2) 1) (get_or_row_at t i p hi hp)

-- Lowest bits are equal exactly if the tests for 1 are.
same_test : (x y : ℕ) → eqb (x % 2) 1 ≡ eqb (y % 2) 1 → x % 2 ≡ y % 2
same_test x y e = go (eqb (y % 2) 1) refl
  where
    go : (v : Bool) → eqb (y % 2) 1 ≡ v → x % 2 ≡ y % 2
    go true f = let p = eqb-true (x % 2) 1 (e ∙ f) in let q = eqb-true (y % 2) 1 f in omega arith
    go false f = let p = eqb-false (x % 2) 1 (e ∙ f) in let q = eqb-false (y % 2) 1 f in omega arith

module _ (t : List ℕ) (i j : ℕ) (hi : i < room t) (hj : j < room t) where
  -- Rows agree where their bytes do.
  alike_byte : (k : ℕ) → k < row_bits → get_or t (16 * i + k / 8) 0 / 2 ^ (k % 8) % 2 ≡ get_or t (16 * j + k / 8) 0 / 2 ^ (k % 8) % 2
      → bit_of (row_at t i) k ≡ bit_of (row_at t j) k
  alike_byte k h e =
      let place : 8 * (k / 8) + k % 8 ≡ k = omega arith in
      subst (λ (q : ℕ). bit_of (row_at t i) q ≡ bit_of (row_at t j) q) place
      (bit_at t i (k / 8) (k % 8) hi (omega arith) (omega arith)
      ∙ ap (λ (x : ℕ). eqb x 1) e
      ∙ sym (bit_at t j (k / 8) (k % 8) hj (omega arith) (omega arith)))

  module _ (p : ℕ) (before : (q : ℕ) → q < p → get_or t (16 * i + q) 0 ≡ get_or t (16 * j + q) 0) where
    alike_before : (k : ℕ) → k < row_bits → k / 8 < p → bit_of (row_at t i) k ≡ bit_of (row_at t j) k
    alike_before k h below = alike_byte k h (ap (λ (x : ℕ). x / 2 ^ (k % 8) % 2) (before (k / 8) below))

    -- All bytes are equal.
    pub shared_whole : 16 ≤ p → Shared (row_at t i) (row_at t j) row_bits
    shared_whole end = record { most = omega arith; alike = λ k h. alike_before k h (omega arith); unlike = λ h. absurd (omega arith) }

    -- Byte p is the first that differs.
    pub shared_bytes : (r : ℕ) → p < 16 → get_or t (16 * i + p) 0 < 256 → get_or t (16 * j + p) 0 < 256 → get_or t (16 * i + p) 0 ≢ get_or t (16 * j + p) 0
        → AlikeBits (get_or t (16 * i + p) 0) (get_or t (16 * j + p) 0) r → Shared (row_at t i) (row_at t j) (8 * p + r)
    shared_bytes r hp byte_i byte_j differ bits = record { most = omega (arith, bits.most); alike = alike; unlike = λ h e. unlike e }
      where
        some_differ : r < 8
        some_differ = go (dec_lt r 8)
          where
            go : Dec (r < 8) → r < 8
            go (yes h) = h
            go (no h) =
                let most = bits.most in
                absurd (differ (bits_determine 8 (get_or t (16 * i + p) 0) (get_or t (16 * j + p) 0) byte_i byte_j
                (λ s below. ap (λ (x : ℕ). eqb x 1) (bits.alike s (omega arith)))))

        alike : Alike (row_at t i) (row_at t j) (8 * p + r)
        alike k h = go (dec_lt (k / 8) p)
          where
            go : Dec (k / 8 < p) → bit_of (row_at t i) k ≡ bit_of (row_at t j) k
            go (yes below) = alike_before k (omega (arith, some_differ)) below
            go (no beyond) =
                let byte : p ≡ k / 8 = omega (arith, some_differ) in
                alike_byte k (omega (arith, some_differ))
                (subst (λ (q : ℕ). get_or t (16 * i + q) 0 / 2 ^ (k % 8) % 2 ≡ get_or t (16 * j + q) 0 / 2 ^ (k % 8) % 2) byte
                (bits.alike (k % 8) (omega (arith, some_differ))))

        unlike : bit_of (row_at t i) (8 * p + r) ≡ bit_of (row_at t j) (8 * p + r) → ⊥
        unlike e =
            bits.unlike some_differ
            (same_test (get_or t (16 * i + p) 0 / 2 ^ r) (get_or t (16 * j + p) 0 / 2 ^ r)
            (sym (bit_at t i p r hi hp some_differ) ∙ e ∙ bit_at t j p r hj hp some_differ))

-- ---- a row and those before it

pub alike_fewer : (row other : List ℕ) (m n : ℕ) → m ≤ n → Alike row other n → Alike row other m
alike_fewer row other m n h alike k below = alike k (omega arith)

module _ (t : List ℕ) (i j n s : ℕ) (told : Tells t i j n) (shares : Shared (row_at t i) (row_at t j) s) where
  tells_longer : n ≤ s → Tells t i (j + 1) (s + 1)
  tells_longer h = record {
    most = omega (arith, shares.most);
    enough = λ fit q below alike. go fit q below alike (dec_lt q j);
    fewest = λ m low. (j, omega arith, alike_fewer (row_at t i) (row_at t j) m s (omega arith) shares.alike);
  }
    where
      go : s + 1 ≤ row_bits → (q : ℕ) → q < j + 1 → Alike (row_at t i) (row_at t q) (s + 1) → Dec (q < j) → ⊥
      go fit q below alike (yes earlier) = told.enough (omega arith) q earlier (alike_fewer (row_at t i) (row_at t q) n (s + 1) (omega arith) alike)
      go fit q below alike (no last) =
          let here : q ≡ j = omega arith in
          shares.unlike (omega arith) (subst (λ (p : ℕ). bit_of (row_at t i) s ≡ bit_of (row_at t p) s) here (alike s (omega arith)))

  tells_still : s < n → Tells t i (j + 1) n
  tells_still h = record {
    most = told.most;
    enough = λ fit q below alike. go fit q below alike (dec_lt q j);
    fewest = λ m low. let earlier = told.fewest m low in (earlier.0, omega (arith, earlier.1), earlier.2);
  }
    where
      go : n ≤ row_bits → (q : ℕ) → q < j + 1 → Alike (row_at t i) (row_at t q) n → Dec (q < j) → ⊥
      go fit q below alike (yes earlier) = told.enough fit q earlier alike
      go fit q below alike (no last) =
          let here : q ≡ j = omega arith in
          shares.unlike (omega arith) (subst (λ (p : ℕ). bit_of (row_at t i) s ≡ bit_of (row_at t p) s) here (alike s h))

  -- One row more.
  pub tells_next : (r : ℕ) → r ≡ max n (s + 1) → Tells t i (j + 1) r
  tells_next r e = go (dec_lt s n)
    where
      go : Dec (s < n) → Tells t i (j + 1) r
      go (yes h) = let same : n ≡ r = omega arith in subst (λ (x : ℕ). Tells t i (j + 1) x) same (tells_still h)
      go (no h) = let same : s + 1 ≡ r = omega arith in subst (λ (x : ℕ). Tells t i (j + 1) x) same (tells_longer (omega arith))

-- One number more is written.
pub told_next : (t numbers : List ℕ) (i v : ℕ) → i < length numbers → Told t numbers i → Tells t i i v → Told t (set numbers i v) (i + 1)
told_next t numbers i v h told here q below = go (dec_lt q i)
  where
    go : Dec (q < i) → Tells t q q (get_or (set numbers i v) q 0)
    go (yes earlier) = subst (λ (x : ℕ). Tells t q q x) (sym (get_or-set_other numbers i q v 0 (λ e. omega arith))) (told q earlier)
    go (no last) =
        let same : i ≡ q = omega arith in
        subst (λ (p : ℕ). Tells t p p (get_or (set numbers i v) p 0)) same (subst (λ (x : ℕ). Tells t i i x) (sym (get_or-set_same numbers i v 0 h)) here)
