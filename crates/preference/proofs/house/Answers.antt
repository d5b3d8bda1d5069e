-- `preference::house` meets its contract: the machine counts the ones of the whole remainder, and 01's entry is their parity.
-- Assumes nothing.
use mathlib.Core.Path.{sym}
use Rattle.preference.proofs.HouseRule.{house_rule_right}
use Rattle.preference.proofs.house.Goals as goal

pub returns : goal.returns
returns c = sym (house_rule_right.every_number c.args.i)
