-- The start of a table that is lent on, and what the table holds when it comes back.
--     part_put        what is put at the start of the part is put at the start of the table
-- Assumes nothing.
use Prim.Native.Nat.{ℕ, zero, suc, ◌≤◌, ◌<◌}
use native.Mathlib.Omega.{arith}
use mathlib.Core.Path.{◌≡◌, refl, ◌∙◌, ap}
use mathlib.Core.List.{List, [], ◌∷◌, ◌++◌, append_assoc}
use lib.IntN.{ℤ}
use lib.ListN.{length, take, drop, length-append}
use lib.Seq.{length-take-le}

rejoined : (n : ℕ) (l : List ℤ) → take n l ++ drop n l ≡ l
rejoined zero l = refl
rejoined (suc n) [] = refl
rejoined (suc n) (x ∷ l) = ap (λ (k : List ℤ). x ∷ k) (rejoined n l)

-- Dropping no more than the part has, from the part and from the whole.
dropped : (r n : ℕ) (l : List ℤ) → r ≤ n → drop r (take n l) ++ drop n l ≡ drop r l
dropped zero n l few = rejoined n l
dropped (suc r) zero l few = absurd (omega arith)
dropped (suc r) (suc n) [] few = refl
dropped (suc r) (suc n) (x ∷ l) few = dropped r n l (omega arith)

pub part_put : (n r : ℕ) (l part put : List ℤ) → n < length l → r ≡ length put → length part ≡ length (take n l)
    → part ≡ put ++ drop r (take n l) → part ++ drop n l ≡ put ++ drop r l
part_put n r l part put shorter count same is =
    let size = length-take-le n l (omega arith) in
    let both = ap length is ∙ length-append put (drop r (take n l)) in
    ap (λ (k : List ℤ). k ++ drop n l) is
    ∙ append_assoc put (drop r (take n l)) (drop n l)
    ∙ ap (λ (k : List ℤ). put ++ k) (dropped r n l (omega arith))
