-- `reply::copy_behind` meets its contract. Assumes nothing.
use native.Mathlib.Omega.{arith}
use Rattle.rows.specs.Row.{bit_of}
use Rattle.rows.specs.Table.{row_at}
use Rattle.reply.proofs.CopyLaws.{one_copied}
use Rattle.reply.proofs.copy_behind.Goals as goal

pub loop-k-preserved : goal.loop-k-preserved
loop-k-preserved c =
    let turn = c.loop-k in
    one_copied (bit_of (row_at c.args.rows.now c.args.i)) c.args.from c.args.table.now c.args.to turn.k turn.table turn.invariant c.requires.1
    (omega (arith, c.requires.0, c.loop-k-test.true)) c.bit.result _ c.bit.ensures c.set_if.ensures
