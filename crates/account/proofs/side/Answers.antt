-- `account::side` meets its contract. Assumes nothing.
use native.Mathlib.Omega.{arith}
use mathlib.Core.Path.{◌∙◌}
use lib.ListN.{take}
use Rattle.account.proofs.LineLaws.{side_next, side_all}
use Rattle.account.proofs.side.Goals as goal

pub loop-i-preserved : goal.loop-i-preserved
loop-i-preserved c =
    let q = c.args in (
      omega arith,
      side_next (take q.at q.text.now) q.label.now q.m q.rows.now q.marks.now q.counts.now c.loop-i.i (omega arith) c.requires.counted
          c.requires.there c.row_line-end.ensures.text_after c.loop-i.invariant.1,
    )

pub returns : goal.returns
returns c =
    let q = c.args in
    record {
      upper_bound = omega arith;
      text_after = c.loop-i.invariant.1 ∙ side_all (take q.at q.text.now) q.label.now q.m q.rows.now q.marks.now q.counts.now c.loop-i.i (omega arith)
          c.requires.counted;
    }
