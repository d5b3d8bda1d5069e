-- `opening::first_bits` meets its contract. The loop's invariant: the bits passed are set that the row has. Assumes nothing.
use Prim.Native.Nat.{ℕ}
use native.Mathlib.Omega.{arith}
use mathlib.Core.Path.{◌≡◌, ap, ◌∙◌}
use mathlib.Core.Bool.{Bool}
use lib.ListN.{replicate}
use Rattle.rows.specs.Row.{bit_of}
use Rattle.rows.specs.Table.{row_at}
use Rattle.growth.specs.Growth.{with_preferred}
use Rattle.opening.proofs.StartLaws.{bits_set}
use Rattle.opening.proofs.first_bits.Goals as goal

pub returns : goal.returns
returns c =
    let q = c.args in
    let f : ℕ → Bool = bit_of (row_at q.rows.now q.place) in
    let end : c.loop-k.k ≡ q.length = omega arith in
    c.loop-k.invariant.0 ∙ ap (λ (n : ℕ). with_preferred f n (replicate 16 0)) end ∙ bits_set q.rows.now q.place q.length
