-- Bits of words: what a union, a meet and a difference have. Assumes nothing.
use Prim.Native.Nat.{ℕ, ◌-◌, ◌*◌, ◌/◌, ◌%◌, ◌^◌, ◌<◌}
use mathlib.Core.Path.{◌≡◌, sym, ap, ◌∙◌}
use mathlib.Core.Logic.{◌⊎◌, inl, inr, ⊎_elim}
use mathlib.Core.Bool.{true, false}
use native.Mathlib.Nat.{one-mul}
use native.Mathlib.Omega.{arith}
use lib.Bits.{differ, bit_and, bit_or, bit_xor, and_step, and_shr, xor_step, xor_shr}
use lib.Pow.{shl-shr}
use borrow.Author.Tests.{eqb-true, eqb-false, eq-eqb}
use Rattle.preference.specs.Preference.{odd}
use Rattle.expansion.proofs.Booleans.{true_or_false}
use Rattle.search_sets.proofs.MaskLaws.{odd_or_left, odd_or_right, odd_ones, one_shifted}
use Rattle.engine.specs.Private.TermTables.{bit}

pub or_left : (a b l : ℕ) → bit a l ≡ true → bit (bit_or a b) l ≡ true
unfolding bit
or_left a b l h = odd_or_left a b l h

pub or_right : (a b l : ℕ) → bit b l ≡ true → bit (bit_or a b) l ≡ true
unfolding bit
or_right a b l h = odd_or_right a b l h

pub and_both : (a b l : ℕ) → bit a l ≡ true → bit b l ≡ true → bit (bit_and a b) l ≡ true
unfolding bit
and_both a b l h g =
    let first : a / 2 ^ l % 2 ≡ 1 = eqb-true (a / 2 ^ l % 2) 1 h in
    let second : b / 2 ^ l % 2 ≡ 1 = eqb-true (b / 2 ^ l % 2) 1 g in
    let shifted = and_shr a b l in
    let step = and_step (a / 2 ^ l) (b / 2 ^ l) in
    eq-eqb (bit_and a b / 2 ^ l % 2) 1 (omega arith)

xor_one : (a b l : ℕ) → bit a l ≡ true → bit b l ≡ false → bit (bit_xor a b) l ≡ true
unfolding bit
xor_one a b l h g =
    let first : a / 2 ^ l % 2 ≡ 1 = eqb-true (a / 2 ^ l % 2) 1 h in
    let none = eqb-false (b / 2 ^ l % 2) 1 g in
    let second : b / 2 ^ l % 2 ≡ 0 = omega arith in
    let digit : differ (a / 2 ^ l % 2) (b / 2 ^ l % 2) ≡ 1 = ap (λ (x : ℕ). differ x (b / 2 ^ l % 2)) first ∙ ap (differ 1) second in
    let shifted = xor_shr a b l in
    let step = xor_step (a / 2 ^ l) (b / 2 ^ l) in
    eq-eqb (bit_xor a b / 2 ^ l % 2) 1 (omega arith)

-- What a word has is in another, or left over.
pub left_over : (all had l : ℕ) → bit all l ≡ true → (bit had l ≡ true) ⊎ (bit (bit_and all (bit_xor all had)) l ≡ true)
left_over all had l h = ⊎_elim (λ e. inl e) (λ e. inr (and_both all (bit_xor all had) l h (xor_one all had l h e))) (true_or_false (bit had l))

pub ones_bit : (k l : ℕ) → l < k → bit (2 ^ k - 1) l ≡ true
unfolding bit
ones_bit k l h = odd_ones k l h

pub full_bit : (l : ℕ) → l < 64 → bit (2 ^ 64 - 1) l ≡ true
full_bit l h = ones_bit 64 l h

pub shifted_bit : (v l : ℕ) → v ≡ 1 → l < 64 → bit (v * 2 ^ l % 2 ^ 64) l ≡ true
unfolding bit
shifted_bit v l e h =
    ap (λ (x : ℕ). odd (x * 2 ^ l % 2 ^ 64 / 2 ^ l)) e
    ∙ ap (λ (x : ℕ). odd (x / 2 ^ l)) (one_shifted l h ∙ sym (one-mul (2 ^ l)))
    ∙ ap odd (shl-shr 1 l)
