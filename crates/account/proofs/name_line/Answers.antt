-- `account::name_line` meets its contract: the parts stand one behind the other. Assumes nothing.
use native.Mathlib.Omega.{arith}
use lib.ListN.{take}
use Rattle.account.proofs.LineLaws.{name_behind}
use Rattle.account.proofs.name_line.Goals as goal

pub returns : goal.returns
returns c = record {
  upper_bound = omega arith;
  text_after = rw (c.append.ensures.text_after, c.field-next.ensures.text_after) (name_behind (take c.args.at c.args.text.now) c.args.label.now c.args.name);
}
