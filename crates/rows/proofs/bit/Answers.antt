-- `rows::bit` meets its contract. Assumes nothing.
use mathlib.Core.Path.{sym, ap, ◌∙◌}
use mathlib.Core.List.{List, []}
use Prim.Native.Nat.{ℕ, zero-le}
use native.Mathlib.Omega.{arith}
use Rattle.rows.specs.Row.{bit_of}
use Rattle.rows.proofs.RowLaws.{no_bit_past_end}
use Rattle.rows.proofs.TableLaws.{row_at_outside, length_row_at, bit_of_row_at}
use Rattle.rows.proofs.bit.Goals as goal

pub returns-then-rows-i : goal.returns-then-rows-i
returns-then-rows-i c =
    let given = c.args in
    sym
    (ap (λ (l : List ℕ). bit_of l given.k) (row_at_outside given.rows.now given.i c.if-rows-i.true)
    ∙ no_bit_past_end [] given.k zero-le)

pub returns-then-k-ge-BITS : goal.returns-then-k-ge-BITS
returns-then-k-ge-BITS c =
    let given = c.args in
    sym (no_bit_past_end _ given.k (omega (arith, length_row_at given.rows.now given.i c.if-rows-i.false)))

pub returns : goal.returns
returns c =
    let given = c.args in
    sym (bit_of_row_at given.rows.now given.i given.k c.if-rows-i.false c.if-k-ge-BITS.false)
