-- How long the printed lines are at most, and that what is put into a buffer is no longer than it. Assumes nothing.
use Prim.Native.Nat.{ℕ, zero, suc, ◌+◌, ◌/◌, ◌%◌, ◌^◌, ◌≤◌, ◌<◌}
use native.Mathlib.Nat.{pow-suc}
use borrow.Author.Tests.{ltb-false}
use native.Mathlib.Omega.{arith}
use mathlib.Core.Path.{◌≡◌, refl, ap}
use mathlib.Core.Bool.{Bool, true, false, cond}
use mathlib.Core.List.{List, [], ◌∷◌, ◌++◌}
use lib.Dec.{leb, ltb}
use lib.ListN.{length, drop, length-append}
use Rattle.report.specs.Report.{ascii, decimal, decimal_within, pair_line, refusal_line, put, put_count}

-- A number below a power of ten has no more digits than the exponent says.
pub digits_most : (places k n : ℕ) → n < 10 ^ suc k → length (decimal_within places n) ≤ suc k
digits_most zero k n small = omega arith
digits_most (suc places) k n small = go (ltb n 10) k refl small (λ k. digits_most places k (n / 10))
  where
    go : (b : Bool) (k : ℕ) → ltb n 10 ≡ b → n < 10 ^ suc k → ((k : ℕ) → n / 10 < 10 ^ suc k → length (decimal_within places (n / 10)) ≤ suc k)
        → length (cond b [] (decimal_within places (n / 10)) ++ ((48 + n % 10) ∷ [])) ≤ suc k
    go true k e small more = omega arith
    go false zero e small more = absurd (omega (arith, ltb-false n 10 e))
    go false (suc k) e small more =
        let front : n / 10 < 10 ^ suc k = omega (arith, pow-suc 10 (suc k), small) in
        omega (arith, length-append (decimal_within places (n / 10)) ((48 + n % 10) ∷ []), more k front)

-- A part of a line, and how long it is at most.
pub record AtMost (m : ℕ) (part : List ℕ) : Type 0 where
  pub most : length part ≤ m

pub fixed : (part : List ℕ) → AtMost (length part) part
fixed part = record { most = omega arith }

pub behind : {m n : ℕ} {front back : List ℕ} → AtMost m front → AtMost n back → AtMost (m + n) (front ++ back)
behind {front = front} {back = back} a b = record { most = omega (arith, a.most, b.most, length-append front back) }

-- The numbers that are printed have 32 bits.
abbrev pub Small : ℕ → Type 0
Small n = n < 4294967296

pub decimal_short : (n : ℕ) → Small n → AtMost 10 (decimal n)
unfolding decimal
decimal_short n small = record { most = digits_most 20 9 n (omega (arith, small)) }

pub refusal_most : (n line : ℕ) → Small n → Small line → AtMost 32 (refusal_line n line)
unfolding refusal_line pair_line
refusal_most n line a b =
    behind (behind (behind (behind (fixed (ascii "c refused ")) (decimal_short n a)) (fixed (ascii " "))) (decimal_short line b)) (fixed (ascii "\n"))

-- What was put into a buffer is no longer than it.
pub within : (bytes buffer : List ℕ) {r : ℕ} {after : List ℕ} → r ≡ put_count bytes buffer → after ≡ put bytes buffer → r ≤ length after
unfolding put put_count
within bytes buffer {r} {after} counted written = go (leb (length bytes) (length buffer)) counted written
  where
    go : (b : Bool) → r ≡ cond b (length bytes) 0 → after ≡ cond b (bytes ++ drop (length bytes) buffer) buffer → r ≤ length after
    go true e f = omega (arith, e, ap length f, length-append bytes (drop (length bytes) buffer))
    go false e f = omega (arith, e)
