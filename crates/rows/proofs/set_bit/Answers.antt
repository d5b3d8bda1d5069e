-- `rows::set_bit` meets its contract. Assumes nothing.
use mathlib.Core.Path.{sym, ap, ◌∙◌}
use Prim.Native.Nat.{ℕ, ◌+◌, ◌*◌, ◌/◌}
use lib.Bits.{bit_or}
use lib.ListN.{get_or, set}
use borrow.Author.Tests.{le-ltb}
use Rattle.rows.specs.Stray.{row_bits}
use Rattle.rows.specs.Access.{bit_set}
use Rattle.rows.proofs.BitLaws.{bit_weight}
use Rattle.rows.proofs.TableLaws.{inside_true, inside_false}
use Rattle.rows.proofs.WriteLaws.{bit_set_inside}
use Rattle.rows.proofs.set_bit.Goals as goal

pub returns-then-rows-i : goal.returns-then-rows-i
unfolding bit_set
returns-then-rows-i c = rw (inside_false c.args.rows.now c.args.i c.if-rows-i.true)

pub returns-then-k-ge-BITS : goal.returns-then-k-ge-BITS
unfolding bit_set
returns-then-k-ge-BITS c =
    let given = c.args in
    rw (inside_true given.rows.now given.i c.if-rows-i.false, le-ltb given.k row_bits c.if-k-ge-BITS.true)

pub returns : goal.returns
returns c =
    let given = c.args in
    ap
    (λ (w : ℕ).
    set given.rows.now (16 * given.i + given.k / 8)
    (bit_or (get_or given.rows.now (16 * given.i + given.k / 8) 0) w))
    (bit_weight given.k)
    ∙ sym (bit_set_inside given.rows.now given.i given.k c.if-rows-i.false c.if-k-ge-BITS.false)
