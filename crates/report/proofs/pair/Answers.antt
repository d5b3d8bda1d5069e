-- `report::pair` meets its contract: the parts stand one behind the other. Assumes nothing.
use native.Mathlib.Omega.{arith}
use lib.ListN.{take}
use Rattle.report.proofs.Laws.{pair_behind}
use borrow.Author.Rules.{rules}
use Rattle.report.proofs.pair.Goals as goal

pub returns : goal.returns
returns c =
    let given = c.args in record {
      upper_bound = omega arith;
      text_after = rw (c.append.ensures.out_after_2, c.field-b.ensures.text_after, c.field-a.ensures.text_after)
          (pair_behind (take given.at given.text.now) given.label.now given.first given.second);
    }
