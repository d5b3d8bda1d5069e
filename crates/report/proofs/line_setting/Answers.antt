-- `report::line_setting` meets its contract: the parts stand one behind the other. Assumes nothing.
use native.Mathlib.Omega.{arith}
use lib.ListN.{take}
use Rattle.report.proofs.Laws.{setting_behind}
use borrow.Author.Rules.{rules}
use Rattle.report.proofs.line_setting.Goals as goal

pub returns : goal.returns
returns c =
    let given = c.args in record {
      upper_bound = omega arith;
      text_after = rw (c.append.ensures.out_after_2, c.field-a.ensures.text_after)
          (setting_behind (take given.at given.text.now) given.setting);
    }
