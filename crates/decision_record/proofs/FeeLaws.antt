-- How large a fee of at most 1,000 rounds is. Assumes nothing.
use Prim.Native.Nat.{ℕ, zero, suc, ◌+◌, ◌*◌, ◌/◌, ◌%◌, ◌≤◌}
use native.Mathlib.Nat.{suc-mul}
use native.Mathlib.Omega.{arith}
use mathlib.Core.Path.{◌≡◌}
use mathlib.Core.Bool.{Bool, true, false, cond}
use mathlib.Core.List.{List}
use lib.Dec.{leb, ltb}
use Rattle.formula.specs.Causes.{cause_1}
use Rattle.fee.specs.Rounding.{nearest_even}
use Rattle.fee.specs.Fee.{price, total, changes, risen, fee_on, fee}
use Rattle.fee.proofs.AnswerLaws.{few_kinds}
use Rattle.fee.proofs.ChangeLaws.{changes_few}

either : (b : Bool) (x y most : ℕ) → x ≤ most → y ≤ most → cond b x y ≤ most
either true x y most h k = h
either false x y most h k = k

price_most : (r : ℕ) → price r ≤ 400
unfolding price
price_most r = either (leb r 8) 400 _ 400 (omega arith) (either (leb r 64) 250 120 400 (omega arith) (omega arith))

total_most : (rounds : ℕ) → total price rounds ≤ 400 * rounds
total_most zero = omega arith
total_most (suc rounds) = omega (arith, total_most rounds, price_most (suc rounds))

product_most : (a b m k : ℕ) → a ≤ m → b ≤ k → a * b ≤ m * k
product_most zero b m k h l = omega arith
product_most (suc a) b zero k h l = absurd (omega (arith, h))
product_most (suc a) b (suc m) k h l = rw (suc-mul a b, suc-mul m k) (omega (arith, l, product_most a b m k (omega (arith, h)) l))

rounded_most : (x : ℕ) → nearest_even x ≤ x / 1000 + 1
unfolding nearest_even
rounded_most x =
    either (ltb (x % 1000) 500) _ _ (x / 1000 + 1) (omega arith) (either (ltb 500 (x % 1000)) _ _ (x / 1000 + 1) (omega arith) (omega arith))

-- 1,000 rounds at no more than 400 cents, and at most 127 changes of kind.
pub fee_small : (kinds : List ℕ) (rounds : ℕ) → cause_1 kinds ≡ false → rounds ≤ 1000 → fee kinds rounds ≤ 1162001
unfolding fee_on
fee_small kinds rounds known few =
    let changed : 1000 + 15 * changes kinds ≤ 2905 = omega (arith, changes_few kinds (few_kinds kinds known)) in
    let sum : total price rounds ≤ 400000 = omega (arith, total_most rounds, few) in
    let grown : risen (total price rounds) (changes kinds) ≤ 400000 * 2905 = product_most (total price rounds) (1000 + 15 * changes kinds) 400000 2905 sum changed in
    omega (arith, grown, rounded_most (risen (total price rounds) (changes kinds)))
