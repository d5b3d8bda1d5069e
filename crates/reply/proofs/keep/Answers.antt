-- `reply::keep` meets its contract.
-- Assumes nothing.
use Rattle.std.specs.Prelude.{◌≡◌, true}
use Rattle.rows.specs.Row.{bit_of}
use Rattle.rows.specs.Table.{row_at}
use Rattle.reply.proofs.FittedLaws.{kept_copied}
use borrow.Author.Rules.{rules}
use native.Mathlib.Omega.{arith}
use Rattle.reply.proofs.keep.Goals as goal

pub overflow_add-result : goal.overflow_add-result
overflow_add-result c = let into = c.requires.1 in omega (arith, into)

pub returns : goal.returns
returns c =
    let fits : c.args.fit ≡ true = search rules in
    let both = kept_copied c.args.fit (bit_of (row_at c.args.rows.now c.args.i)) c.args.from c.args.width c.args.table.now c.args.to _ fits
    c.copy_behind.ensures in
    record { value = both.0; kept = both.1 }
