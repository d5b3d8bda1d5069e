-- `trimming::with_index` meets its contract.
-- Assumes nothing.
use native.Mathlib.Omega.{arith}
use mathlib.Core.Path.{refl}
use Rattle.trimming.proofs.LoopLaws.{first_index}
use Rattle.trimming.proofs.TrimLaws.{all_rules}
use Rattle.trimming.proofs.with_index.Goals as goal

pub drop_true-requires : goal.drop_true-requires
drop_true-requires c =
    let fill_call = c.fill in
    let index_made =
    first_index c.args.table.now c.args.index.now c.requires.0 c.requires.2 c.requires.3 fill_call.new.index
    fill_call.ensures.index_after in
    (c.requires.0, index_made, c.requires.2)

pub settle-requires : goal.settle-requires
settle-requires c =
    let dropped = c.drop_true.ensures in
    (dropped.0.laid_out, dropped.1, c.requires.1, omega (arith, dropped.0.sized, c.requires.2), refl, refl)

pub returns : goal.returns
returns c =
    all_rules c.args.kinds.now
    c.drop_true.ensures.0
    c.settle.ensures.0
