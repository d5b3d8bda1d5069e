-- `account::row_line` meets its contract: the parts stand one behind the other. Assumes nothing.
use native.Mathlib.Omega.{arith}
use lib.ListN.{take}
use Rattle.rows.specs.Row.{row_of}
use Rattle.rows.specs.Table.{row_at}
use Rattle.account.proofs.LineLaws.{row_behind}
use Rattle.account.proofs.row_line.Goals as goal

pub returns : goal.returns
returns c =
    let q = c.args in record {
      upper_bound = omega arith;
      text_after = rw (c.append.ensures.text_after, c.values-d.ensures.text_after, c.append-c.ensures.text_after, c.field-b.ensures.text_after, c.field-a.ensures.text_after) (row_behind (take q.at q.text.now) q.label.now q.mark q.count (row_of q.m (row_at q.rows.now q.i)));
    }
