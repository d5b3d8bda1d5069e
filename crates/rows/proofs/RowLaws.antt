-- One row: the sixteen bytes of a row's values give the values back, and sixteen bytes without a stray bit are the bytes of their values.
-- So rows are equal exactly if their bytes are.
-- Assumes nothing.
use mathlib.Core.Path.{◌≡◌, refl, sym, ap, ◌∙◌, subst}
use mathlib.Core.Bool.{Bool, false}
use mathlib.Core.List.{List}
use Prim.Native.Nat.{ℕ, zero, suc, ◌+◌, ◌-◌, ◌*◌, ◌/◌, ◌%◌, ◌^◌, ◌≤◌, ◌<◌}
use native.Mathlib.Nat.{le_of_suc-le-suc, not-suc-le-zero}
use native.Mathlib.Decide.{dec_lt}
use native.Mathlib.Omega.{arith}
use lib.ListN.{length, get_or, take, drop, length-take, get_or-eq_default}
use lib.Pow.{pow_pos, shr_lt, shr-shr}
use lib.Seq.{ext_get_or, get_or-take, get_or-drop, drop-drop}
use Rattle.preference.specs.Preference.{odd}
use Rattle.rows.specs.Row.{bit_of, row_of, number, bytes, bytes_of}
use Rattle.rows.specs.Stray.{stray, row_bits}
use Rattle.rows.proofs.BitLaws.{odd_zero, bit_number, number_below, bits_determine}
use Rattle.rows.proofs.ValueLaws.{length_values, get_or_values, any_false, none_any}

-- ---- values and bits

pub length_row_of : (m : ℕ) (b : List ℕ) → length (row_of m b) ≡ m
unfolding row_of
length_row_of m b = length_values m (bit_of b)

-- Value k of a row is bit k of its bytes.
pub get_or_row_of : (m : ℕ) (b : List ℕ) (k : ℕ) → k < m → get_or (row_of m b) k false ≡ bit_of b k
unfolding row_of
get_or_row_of m b k h = get_or_values m (bit_of b) k h

-- Bit t of byte p.
pub bit_in_byte : (b : List ℕ) (p t : ℕ) → t < 8 → bit_of b (8 * p + t) ≡ odd (get_or b p 0 / 2 ^ t)
unfolding bit_of
bit_in_byte b p t h =
    let byte : (8 * p + t) / 8 ≡ p = omega arith in
    let place : (8 * p + t) % 8 ≡ t = omega arith in
    ap (λ (q : ℕ). odd (get_or b q 0 / 2 ^ ((8 * p + t) % 8))) byte ∙ ap (λ (s : ℕ). odd (get_or b p 0 / 2 ^ s)) place

-- There is no bit set past the end.
pub no_bit_past_end : (b : List ℕ) (k : ℕ) → length b ≤ k / 8 → bit_of b k ≡ false
unfolding bit_of
no_bit_past_end b k h = ap (λ (x : ℕ). odd (x / 2 ^ (k % 8))) (get_or-eq_default b 0 h) ∙ odd_zero (k % 8)

-- ---- bytes

length_bytes : (n : ℕ) (vs : List Bool) → length (bytes n vs) ≡ n
length_bytes zero vs = refl
length_bytes (suc n) vs = ap suc (length_bytes n (drop 8 vs))

pub length_bytes_of : (r : List Bool) → length (bytes_of r) ≡ 16
unfolding bytes_of
length_bytes_of r = length_bytes 16 r

bytes_below : (n : ℕ) (vs : List Bool) (p : ℕ) → get_or (bytes n vs) p 0 < 256
bytes_below zero vs p = omega arith
bytes_below (suc n) vs zero = number_below 8 (take 8 vs) (omega (arith, length-take 8 vs))
bytes_below (suc n) vs (suc p) = bytes_below n (drop 8 vs) p

pub bytes_of_below : (r : List Bool) (p : ℕ) → get_or (bytes_of r) p 0 < 256
unfolding bytes_of
bytes_of_below r p = bytes_below 16 r p

get_or_bytes : (n : ℕ) (vs : List Bool) (p : ℕ) → p < n → get_or (bytes n vs) p 0 ≡ number (take 8 (drop (8 * p) vs))
get_or_bytes zero vs p h = absurd (not-suc-le-zero h)
get_or_bytes (suc n) vs zero h = refl
get_or_bytes (suc n) vs (suc p) h =
    let next : 8 + 8 * p ≡ 8 * suc p = omega arith in
    get_or_bytes n (drop 8 vs) p (le_of_suc-le-suc h)
    ∙ ap (λ (l : List Bool). number (take 8 l)) (drop-drop (8 * p) 8 vs ∙ ap (λ (d : ℕ). drop d vs) next)

bit_bytes : (n : ℕ) (vs : List Bool) (k : ℕ) → k < 8 * n → bit_of (bytes n vs) k ≡ get_or vs k false
unfolding bit_of
bit_bytes n vs k h =
    let place : 8 * (k / 8) + k % 8 ≡ k = omega arith in
    ap (λ (x : ℕ). odd (x / 2 ^ (k % 8))) (get_or_bytes n vs (k / 8) (omega arith))
    ∙ bit_number (take 8 (drop (8 * (k / 8)) vs)) (k % 8)
    ∙ get_or-take 8 (drop (8 * (k / 8)) vs) (k % 8) false (omega arith)
    ∙ get_or-drop (8 * (k / 8)) vs (k % 8) false
    ∙ ap (λ (i : ℕ). get_or vs i false) place

-- Bit k of a row's bytes is the row's value k, and is not set beyond its values.
pub bit_bytes_of : (r : List Bool) (k : ℕ) → k < row_bits → bit_of (bytes_of r) k ≡ get_or r k false
unfolding bytes_of
bit_bytes_of r k h = bit_bytes 16 r k h

-- ---- stray bits

-- Without a stray bit every bit at or beyond m is not set, and the other way round.
pub stray_false : (m : ℕ) (b : List ℕ) → stray m b ≡ false → (k : ℕ) → m ≤ k → k < row_bits → bit_of b k ≡ false
unfolding stray
stray_false m b e k low high =
    let place : m + (k - m) ≡ k = omega arith in
    sym (get_or_row_of row_bits b k high)
    ∙ ap (λ (i : ℕ). get_or (row_of row_bits b) i false) (sym place)
    ∙ sym (get_or-drop m (row_of row_bits b) (k - m) false)
    ∙ any_false (drop m (row_of row_bits b)) e (k - m)

pub none_stray : (m : ℕ) (b : List ℕ) → ((k : ℕ) → m ≤ k → k < row_bits → bit_of b k ≡ false) → stray m b ≡ false
unfolding stray
none_stray m b none = none_any (drop m (row_of row_bits b)) (λ i. get_or-drop m (row_of row_bits b) i false ∙ go i (dec_lt (m + i) row_bits))
  where
    go : (i : ℕ) → Dec (m + i < row_bits) → get_or (row_of row_bits b) (m + i) false ≡ false
    go i (yes h) = get_or_row_of row_bits b (m + i) h ∙ none (m + i) (omega arith) h
    go i (no h) = get_or-eq_default (row_of row_bits b) false (omega (arith, length_row_of row_bits b))

-- The same byte by byte. Without a stray bit a byte has nothing from its bit s on, if that bit is at or beyond m.
pub byte_beyond : (m : ℕ) (b : List ℕ) (p s : ℕ) → stray m b ≡ false → get_or b p 0 < 256 → p < 16 → s ≤ 8 → m ≤ 8 * p + s
    → get_or b p 0 / 2 ^ s ≡ 0
byte_beyond m b p s e below hp hs beyond =
    let width : 8 ≡ 8 - s + s = omega arith in
    bits_determine (8 - s) (get_or b p 0 / 2 ^ s) 0 (shr_lt (8 - s) s (subst (λ (n : ℕ). get_or b p 0 < 2 ^ n) width below)) (pow_pos (8 - s))
    (λ t h.
    ap odd (shr-shr (get_or b p 0) s t)
    ∙ sym (bit_in_byte b p (s + t) (omega arith))
    ∙ stray_false m b e (8 * p + (s + t)) (omega arith) (omega arith)
    ∙ sym (odd_zero t))

-- There is no stray bit if the byte of bit m has nothing from that bit on, and the bytes behind it are zero.
pub none_stray_bytes : (m : ℕ) (b : List ℕ) → get_or b (m / 8) 0 / 2 ^ (m % 8) ≡ 0 → ((p : ℕ) → p < 16 → m / 8 < p → get_or b p 0 ≡ 0)
    → stray m b ≡ false
unfolding bit_of
none_stray_bytes m b here behind = none_stray m b (λ k low high. go k low high (dec_lt (m / 8) (k / 8)))
  where
    go : (k : ℕ) → m ≤ k → k < row_bits → Dec (m / 8 < k / 8) → bit_of b k ≡ false
    go k low high (yes h) = ap (λ (y : ℕ). odd (y / 2 ^ (k % 8))) (behind (k / 8) (omega arith) h) ∙ odd_zero (k % 8)
    go k low high (no h) =
        let byte : k / 8 ≡ m / 8 = omega arith in
        let place : k % 8 ≡ m % 8 + (k % 8 - m % 8) = omega arith in
        ap (λ (q : ℕ). odd (get_or b q 0 / 2 ^ (k % 8))) byte
        ∙ ap (λ (s : ℕ). odd (get_or b (m / 8) 0 / 2 ^ s)) place
        ∙ ap odd (sym (shr-shr (get_or b (m / 8) 0) (m % 8) (k % 8 - m % 8)))
        ∙ ap (λ (y : ℕ). odd (y / 2 ^ (k % 8 - m % 8))) here
        ∙ odd_zero (k % 8 - m % 8)

-- ---- a row's values and its bytes

-- Sixteen bytes that hold the values of m unknowns, with no bit set beyond them.
pub record IsRow (m : ℕ) (b : List ℕ) : Type 0 where
  pub width : length b ≡ 16
  pub below : (p : ℕ) → get_or b p 0 < 256
  pub clean : stray m b ≡ false

pub row_of_bytes_of : (m : ℕ) (r : List Bool) → length r ≡ m → m ≤ row_bits → row_of m (bytes_of r) ≡ r
row_of_bytes_of m r e h =
    ext_get_or false (row_of m (bytes_of r)) r (length_row_of m (bytes_of r) ∙ sym e)
    (λ k below.
    let k<m : k < m = omega (arith, length_row_of m (bytes_of r)) in
    get_or_row_of m (bytes_of r) k k<m ∙ bit_bytes_of r k (omega arith))

-- A value that is not a row's own is false, and so is the bit.
get_or_row_of_clean : (m : ℕ) (b : List ℕ) → stray m b ≡ false → (k : ℕ) → k < row_bits → Dec (k < m) → get_or (row_of m b) k false ≡ bit_of b k
get_or_row_of_clean m b e k h (yes own) = get_or_row_of m b k own
get_or_row_of_clean m b e k h (no beyond) =
    get_or-eq_default (row_of m b) false (omega (arith, length_row_of m b)) ∙ sym (stray_false m b e k (omega arith) h)

pub bytes_of_row_of : (m : ℕ) (b : List ℕ) → IsRow m b → bytes_of (row_of m b) ≡ b
bytes_of_row_of m b ok =
    ext_get_or 0 (bytes_of (row_of m b)) b (length_bytes_of (row_of m b) ∙ sym ok.width)
    (λ p h. bits_determine 8 (get_or (bytes_of (row_of m b)) p 0) (get_or b p 0) (bytes_of_below (row_of m b) p) (ok.below p) (λ t t<8.
    let k<128 : 8 * p + t < row_bits = omega (arith, length_bytes_of (row_of m b)) in
    sym (bit_in_byte (bytes_of (row_of m b)) p t t<8)
    ∙ bit_bytes_of (row_of m b) (8 * p + t) k<128
    ∙ get_or_row_of_clean m b ok.clean (8 * p + t) k<128 (dec_lt (8 * p + t) m)
    ∙ bit_in_byte b p t t<8))

pub bytes_of_is_row : (m : ℕ) (r : List Bool) → length r ≡ m → IsRow m (bytes_of r)
bytes_of_is_row m r e = record {
  width = length_bytes_of r;
  below = bytes_of_below r;
  clean = none_stray m (bytes_of r) (λ k low high. bit_bytes_of r k high ∙ get_or-eq_default r false (omega arith));
}

-- Rows with the same values have the same bytes.
pub equal_values_equal_bytes : (m : ℕ) (b c : List ℕ) → IsRow m b → IsRow m c → row_of m b ≡ row_of m c → b ≡ c
equal_values_equal_bytes m b c okb okc e = sym (bytes_of_row_of m b okb) ∙ ap bytes_of e ∙ bytes_of_row_of m c okc
