-- Sets of positions as two words: a union keeps the bits of both, a remainder keeps the bits below it, a word of ones has every bit.
-- Assumes nothing.
use mathlib.Core.Path.{◌≡◌, refl, sym, ap, ap₂, ◌∙◌, subst}
use mathlib.Core.Logic.{◌≢◌}
use mathlib.Core.Bool.{Bool, true, false, cond}
use mathlib.Core.List.{List}
use Prim.Native.Nat.{ℕ, suc, ◌+◌, ◌-◌, ◌*◌, ◌/◌, ◌%◌, ◌^◌, ◌≤◌, ◌<◌, min}
use native.Mathlib.Nat.{zero-mul, one-mul, pow-succ'}
use native.Mathlib.Decide.{dec_lt, ℕ_discrete}
use native.Mathlib.Omega.{arith}
use lib.Bits.{bit_and, bit_or, or_step, or_shr, or_comm, and_mask}
use lib.Dec.{ltb, eqb}
use lib.ListN.{length, get_or, set, length-set}
use lib.Pow.{pow_pos, field, high, ones_lt, ones_split, mod-mod-pow, shl_exact, shl-shr}
use lib.Seq.{get_or-set_same, get_or-set_other}
use borrow.Author.Tests.{ltb-true, ltb-false, lt-ltb, le-ltb, eqb-true, eq-eqb}
use Rattle.formula.specs.Formula.{max_unknowns}
use Rattle.preference.specs.Preference.{odd}
use Rattle.search_sets.specs.Private.Masks.{words, set_at, SetGrown, SetsKept, Put, WordsUnited, Trimmed}

-- ---- bits of a word

pub odd_or_left : (a b l : ℕ) → odd (a / 2 ^ l) ≡ true → odd (bit_or a b / 2 ^ l) ≡ true
odd_or_left a b l h =
    let lowest : a / 2 ^ l % 2 ≡ 1 = eqb-true (a / 2 ^ l % 2) 1 h in
    let shifted = or_shr a b l in
    let step = or_step (a / 2 ^ l) (b / 2 ^ l) in
    eq-eqb (bit_or a b / 2 ^ l % 2) 1 (omega arith)

pub odd_or_right : (a b l : ℕ) → odd (b / 2 ^ l) ≡ true → odd (bit_or a b / 2 ^ l) ≡ true
odd_or_right a b l h = ap (λ (x : ℕ). odd (x / 2 ^ l)) (or_comm a b) ∙ odd_or_left b a l h

-- A remainder by a power of two keeps the bits below it.
pub odd_remainder : (x m l : ℕ) → l < m → odd (x % 2 ^ m / 2 ^ l) ≡ odd (x / 2 ^ l)
odd_remainder x m l h =
    let parts : m ≡ m - l - 1 + 1 + l = omega arith in
    ap (λ (q : ℕ). odd (x % 2 ^ q / 2 ^ l)) parts
    ∙ ap odd (field x (m - l - 1 + 1) l)
    ∙ ap (λ (r : ℕ). eqb r 1) (mod-mod-pow (x / 2 ^ l) (m - l - 1) 1)

pub odd_and_ones : (x m l : ℕ) → l < m → odd (x / 2 ^ l) ≡ true → odd (bit_and x (2 ^ m - 1) / 2 ^ l) ≡ true
odd_and_ones x m l h e = ap (λ (y : ℕ). odd (y / 2 ^ l)) (and_mask x m) ∙ odd_remainder x m l h ∙ e

-- The lowest m bits of 2^m - 1 are ones.
pub odd_ones : (m l : ℕ) → l < m → odd ((2 ^ m - 1) / 2 ^ l) ≡ true
odd_ones m l h =
    let i = m - l - 1 in
    let parts : m ≡ suc i + l = omega arith in
    ap (λ (q : ℕ). odd ((2 ^ q - 1) / 2 ^ l)) parts
    ∙ ap (λ (y : ℕ). odd (y / 2 ^ l)) (ones_split (suc i) l)
    ∙ ap odd (high (2 ^ suc i - 1) l (ones_lt l))
    ∙ eq-eqb ((2 ^ suc i - 1) % 2) 1 (omega (arith, pow-succ' 2 i, pow_pos i))

-- The word 1 << l, and its bit l.
pub one_shifted : (l : ℕ) → l < 64 → 1 * 2 ^ l % 2 ^ 64 ≡ 2 ^ l
one_shifted l h = shl_exact 1 l 64 (omega arith) (omega arith) ∙ one-mul (2 ^ l)

odd_power : (l : ℕ) → odd (2 ^ l / 2 ^ l) ≡ true
odd_power l = ap (λ (y : ℕ). odd (y / 2 ^ l)) (sym (one-mul (2 ^ l))) ∙ ap odd (shl-shr 1 l)

-- ---- the set of two words

-- What keeps the bits of both words keeps the set.
pub words_keep : (a b c d l : ℕ) → (l < 64 → odd (a / 2 ^ l) ≡ true → odd (c / 2 ^ l) ≡ true)
    → (64 ≤ l → odd (b / 2 ^ (l - 64)) ≡ true → odd (d / 2 ^ (l - 64)) ≡ true) → words a b l ≡ true → words c d l ≡ true
unfolding words
words_keep a b c d l low upper h = go (ltb l 64) refl h
  where
    go : (t : Bool) → ltb l 64 ≡ t → cond t (odd (a / 2 ^ l)) (odd (b / 2 ^ (l - 64))) ≡ true
        → cond t (odd (c / 2 ^ l)) (odd (d / 2 ^ (l - 64))) ≡ true
    go true e g = low (ltb-true l 64 e) g
    go false e g = upper (ltb-false l 64 e) g

pub words_full : (l : ℕ) → l < max_unknowns → words (2 ^ 64 - 1) (2 ^ 64 - 1) l ≡ true
unfolding words
words_full l h = go (ltb l 64) refl
  where
    go : (t : Bool) → ltb l 64 ≡ t → cond t (odd ((2 ^ 64 - 1) / 2 ^ l)) (odd ((2 ^ 64 - 1) / 2 ^ (l - 64))) ≡ true
    go true e = odd_ones 64 l (ltb-true l 64 e)
    go false e = let above = ltb-false l 64 e in odd_ones 64 (l - 64) (omega arith)

-- Two zeros are the empty set.
pub words_none : (l : ℕ) → words 0 0 l ≡ false
unfolding words
words_none l = go (ltb l 64)
  where
    even_zero : (m : ℕ) → odd (0 / 2 ^ m) ≡ false
    even_zero m = ap (λ (x : ℕ). odd (x / 2 ^ m)) (sym (zero-mul (2 ^ m))) ∙ ap odd (shl-shr 0 m)

    go : (t : Bool) → cond t (odd (0 / 2 ^ l)) (odd (0 / 2 ^ (l - 64))) ≡ false
    go true = even_zero l
    go false = even_zero (l - 64)

-- Position l is one bit of one word.
pub set_bit : (s : List ℕ) (p l : ℕ) → l < max_unknowns → set_at s p l ≡ odd (get_or s (2 * p + l / 64) 0 / 2 ^ (l % 64))
unfolding words
set_bit s p l h = go (dec_lt l 64)
  where
    go : Dec (l < 64) → set_at s p l ≡ odd (get_or s (2 * p + l / 64) 0 / 2 ^ (l % 64))
    go (yes below) =
        let place : 2 * p ≡ 2 * p + l / 64 = omega arith in
        let bit : l ≡ l % 64 = omega arith in
        ap (λ (t : Bool). cond t (odd (get_or s (2 * p) 0 / 2 ^ l)) (odd (get_or s (2 * p + 1) 0 / 2 ^ (l - 64)))) (lt-ltb l 64 below)
        ∙ ap (λ (q : ℕ). odd (get_or s q 0 / 2 ^ l)) place
        ∙ ap (λ (b : ℕ). odd (get_or s (2 * p + l / 64) 0 / 2 ^ b)) bit
    go (no beyond) =
        let place : 2 * p + 1 ≡ 2 * p + l / 64 = omega arith in
        let bit : l - 64 ≡ l % 64 = omega arith in
        ap (λ (t : Bool). cond t (odd (get_or s (2 * p) 0 / 2 ^ l)) (odd (get_or s (2 * p + 1) 0 / 2 ^ (l - 64)))) (le-ltb l 64 (omega arith))
        ∙ ap (λ (q : ℕ). odd (get_or s q 0 / 2 ^ (l - 64))) place
        ∙ ap (λ (b : ℕ). odd (get_or s (2 * p + l / 64) 0 / 2 ^ b)) bit

-- ---- stores

-- A store into another set.
pub store_elsewhere : (s : List ℕ) (at x p l : ℕ) → 2 * p ≢ at → 2 * p + 1 ≢ at → set_at (set s at x) p l ≡ set_at s p l
store_elsewhere s at x p l low upper =
    ap₂ (λ (a b : ℕ). words a b l) (get_or-set_other s at (2 * p) x 0 low) (get_or-set_other s at (2 * p + 1) x 0 upper)

-- A store of two words.
pub store_put : (s : List ℕ) (to a b : ℕ) → 2 * to + 1 < length s → Put to a b s (set (set s (2 * to) a) (2 * to + 1) b)
store_put s to a b fits = record {
  others = λ p other l.
      store_elsewhere (set s (2 * to) a) (2 * to + 1) b p l (omega arith) (omega arith)
      ∙ store_elsewhere s (2 * to) a p l (omega arith) (omega arith);
  there = λ l.
      ap₂ (λ (x y : ℕ). words x y l)
      (get_or-set_other (set s (2 * to) a) (2 * to + 1) (2 * to) b 0 (omega arith) ∙ get_or-set_same s (2 * to) a 0 (omega arith))
      (get_or-set_same (set s (2 * to) a) (2 * to + 1) b 0 (omega (arith, length-set s (2 * to) a)));
}

-- A store behind the sets of the positions.
pub store_behind : (s : List ℕ) (at x : ℕ) → 2 * max_unknowns ≤ at → SetsKept s (set s at x)
store_behind s at x behind = record { same = λ p lt l. store_elsewhere s at x p l (omega arith) (omega arith) }

pub kept_trans : {s t u : List ℕ} → SetsKept s t → SetsKept t u → SetsKept s u
kept_trans a b = record { same = λ p lt l. b.same p lt l ∙ a.same p lt l }

pub set_grown_refl : {to : ℕ} {s : List ℕ} → SetGrown to s s
set_grown_refl = record { others = λ p n l. refl; keeps = λ l h. h }

pub set_grown_trans : {to : ℕ} {s t u : List ℕ} → SetGrown to s t → SetGrown to t u → SetGrown to s u
set_grown_trans a b = record { others = λ p n l. b.others p n l ∙ a.others p n l; keeps = λ l h. b.keeps l (a.keeps l h) }

-- No set loses a position.
pub set_grown_keeps : {to : ℕ} {s t : List ℕ} → SetGrown to s t → (p l : ℕ) → set_at s p l ≡ true → set_at t p l ≡ true
set_grown_keeps {to} {s} {t} grown p l h = go (ℕ_discrete p to)
  where
    go : Dec (p ≡ to) → set_at t p l ≡ true
    go (yes e) = ap (λ (q : ℕ). set_at t q l) e ∙ grown.keeps l (subst (λ (q : ℕ). set_at s q l ≡ true) e h)
    go (no other) = grown.others p other l ∙ h

-- A change of a set behind those of the positions.
pub kept_grown : {to : ℕ} {s t : List ℕ} → max_unknowns ≤ to → SetGrown to s t → SetsKept s t
kept_grown behind grown = record { same = λ p lt l. grown.others p (λ e. omega arith) l }

pub kept_put : {to low upper : ℕ} {s t : List ℕ} → max_unknowns ≤ to → Put to low upper s t → SetsKept s t
kept_put behind put = record { same = λ p lt l. put.others p (λ e. omega arith) l }

-- A word that takes in bits loses none.
store_or : (s : List ℕ) (at x q l : ℕ) → at < length s → odd (get_or s q 0 / 2 ^ l) ≡ true
    → odd (get_or (set s at (bit_or (get_or s at 0) x)) q 0 / 2 ^ l) ≡ true
store_or s at x q l fits h = go (ℕ_discrete q at)
  where
    v : ℕ
    v = bit_or (get_or s at 0) x

    go : Dec (q ≡ at) → odd (get_or (set s at v) q 0 / 2 ^ l) ≡ true
    go (yes e) =
        ap (λ (j : ℕ). odd (get_or (set s at v) j 0 / 2 ^ l)) e
        ∙ ap (λ (y : ℕ). odd (y / 2 ^ l)) (get_or-set_same s at v 0 fits)
        ∙ odd_or_left (get_or s at 0) x l (ap (λ (j : ℕ). odd (get_or s j 0 / 2 ^ l)) (sym e) ∙ h)
    go (no other) = ap (λ (y : ℕ). odd (y / 2 ^ l)) (get_or-set_other s at q v 0 other) ∙ h

pub store_grown : (s : List ℕ) (at x to : ℕ) → at < length s → 2 * to ≤ at → at ≤ 2 * to + 1
    → SetGrown to s (set s at (bit_or (get_or s at 0) x))
store_grown s at x to fits low upper = record {
  others = λ p other l. store_elsewhere s at (bit_or (get_or s at 0) x) p l (omega arith) (omega arith);
  keeps = λ l.
      words_keep (get_or s (2 * to) 0) (get_or s (2 * to + 1) 0) _ _ l
      (λ below. store_or s at x (2 * to) l fits)
      (λ beyond. store_or s at x (2 * to + 1) (l - 64) fits);
}

-- Position p is in after its bit was taken in.
pub store_added : (s : List ℕ) (to p : ℕ) → 2 * to + p / 64 < length s → p < max_unknowns
    → set_at (set s (2 * to + p / 64) (bit_or (get_or s (2 * to + p / 64) 0) (2 ^ (p % 64)))) to p ≡ true
store_added s to p fits h =
    let at = 2 * to + p / 64 in
    let v = bit_or (get_or s at 0) (2 ^ (p % 64)) in
    set_bit (set s at v) to p h
    ∙ ap (λ (y : ℕ). odd (y / 2 ^ (p % 64))) (get_or-set_same s at v 0 fits)
    ∙ odd_or_right (get_or s at 0) (2 ^ (p % 64)) (p % 64) (odd_power (p % 64))

-- ---- unions and trimmed sets

-- Two words that take in two others.
pub put_united : (s u : List ℕ) (to low upper : ℕ)
    → Put to (bit_or (get_or s (2 * to) 0) low) (bit_or (get_or s (2 * to + 1) 0) upper) s u → WordsUnited to low upper s u
put_united s u to low upper put = record {
  grown = record {
    others = put.others;
    keeps = λ l h.
        put.there l
        ∙ words_keep a b (bit_or a low) (bit_or b upper) l (λ below. odd_or_left a low l) (λ beyond. odd_or_left b upper (l - 64)) h;
  };
  takes = λ l h.
      put.there l
      ∙ words_keep low upper (bit_or a low) (bit_or b upper) l (λ below. odd_or_right a low l) (λ beyond. odd_or_right b upper (l - 64)) h;
}
  where
    a : ℕ
    a = get_or s (2 * to) 0

    b : ℕ
    b = get_or s (2 * to + 1) 0

pub trimmed_refl : (k : ℕ) (s : List ℕ) → Trimmed k s s
trimmed_refl k s = record { below = λ p l h e. e; behind = λ p l h. refl }

-- Two words of ones at the lowest k positions: what is outside them is taken out of the set at p.
pub trimmed_more : (k p low upper : ℕ) (s u v : List ℕ) → k ≤ max_unknowns → p < max_unknowns → low ≡ 2 ^ min k 64 - 1 → upper ≡ 2 ^ min (k - 64) 64 - 1
    → Trimmed k s u → Put p (bit_and (get_or u (2 * p) 0) low) (bit_and (get_or u (2 * p + 1) 0) upper) u v → Trimmed k s v
trimmed_more k p low upper s u v k_within p_within e f before put = record {
  below = λ q l h g. go q l h (before.below q l h g) (ℕ_discrete q p);
  behind = λ q l h. put.others q (omega arith) l ∙ before.behind q l h;
}
  where
    a : ℕ
    a = get_or u (2 * p) 0

    b : ℕ
    b = get_or u (2 * p + 1) 0

    go : (q l : ℕ) → l < k → set_at u q l ≡ true → Dec (q ≡ p) → set_at v q l ≡ true
    go q l h g (yes same) =
        ap (λ (j : ℕ). set_at v j l) same
        ∙ put.there l
        ∙ words_keep a b (bit_and a low) (bit_and b upper) l
        (λ under64 o. subst (λ (m : ℕ). odd (bit_and a m / 2 ^ l) ≡ true) (sym e) (odd_and_ones a (min k 64) l (omega arith) o))
        (λ beyond o. subst (λ (m : ℕ). odd (bit_and b m / 2 ^ (l - 64)) ≡ true) (sym f) (odd_and_ones b (min (k - 64) 64) (l - 64) (omega arith) o))
        (subst (λ (j : ℕ). set_at u j l ≡ true) same g)
    go q l h g (no other) = put.others q other l ∙ g
