-- Entries stored one by one: what straight code and the loops leave, and the definition's two cases. Assumes nothing.
use Prim.Native.Nat.{ℕ, suc, ◌+◌, ◌≤◌, ◌<◌}
use native.Mathlib.Omega.{arith}
use mathlib.Core.Path.{◌≡◌, refl, sym, ap, ◌∙◌}
use mathlib.Core.Bool.{Bool, true, false, cond}
use mathlib.Core.List.{List, [], ◌∷◌, ◌++◌}
use borrow.Author.Tests.{le-leb, lt-leb}
use lib.Dec.{leb}
use lib.IntN.{ℤ}
use lib.ListN.{length, take, drop, set}
use lib.Seq.{sets, sets-eq, paste-zero}
use Rattle.gates.specs.Put.{laid, place_behind}

-- Entries behind entries.
pub sets_append : (E xs ys : List ℤ) (at : ℕ) → sets E at (xs ++ ys) ≡ sets (sets E at xs) (at + length xs) ys
sets_append E [] ys at = let e : at + 0 ≡ at = omega arith in rw e refl
sets_append E (x ∷ xs) ys at =
    let e : at + suc (length xs) ≡ suc at + length xs = omega arith in
    sets_append (set E at x) xs ys (suc at) ∙ ap (λ (k : ℕ). sets (sets (set E at x) (suc at) xs) k ys) (sym e)

-- The definition's cases: n entries that fit, n that do not, and none at all.
module _ (E : List ℤ) (at : ℕ) (zs : List ℤ) where
  pub put_whole : (n : ℕ) → length zs ≡ n → at + n ≤ length E → (E' : List ℤ) → E' ≡ sets E at zs
      → (at + n ≡ place_behind (length E) at zs) × (E' ≡ laid E at zs)
  unfolding laid place_behind
  put_whole n size room E' put =
      let fits : at + length zs ≤ length E = omega arith in
      rw (le-leb (at + length zs) (length E) fits) (omega arith, put ∙ sets-eq zs E at fits)

  pub put_short : (n : ℕ) → length zs ≡ n → length E < at + n → (at ≡ place_behind (length E) at zs) × (E ≡ laid E at zs)
  unfolding laid place_behind
  put_short n size short =
      let over : length E < at + length zs = omega arith in
      rw (lt-leb (at + length zs) (length E) over) (refl, refl)

  pub put_none : zs ≡ [] → (at ≡ place_behind (length E) at zs) × (E ≡ laid E at zs)
  unfolding laid place_behind
  put_none none = rw none (behind (leb (at + 0) (length E)), kept (leb (at + 0) (length E)))
    where
      behind : (b : Bool) → at ≡ cond b (at + 0) at
      behind true = omega arith
      behind false = refl

      kept : (b : Bool) → E ≡ cond b (take at E ++ [] ++ drop (at + 0) E) E
      kept true = paste-zero E at []
      kept false = refl
