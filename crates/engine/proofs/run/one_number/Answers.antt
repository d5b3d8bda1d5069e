-- `one_number` meets its contract: the sum fits, and the case's number is the definition's. Assumes nothing.
use mathlib.Core.Path.{sym, ap}
use Rattle.engine.specs.Numbers.{one_number}
use Rattle.engine.proofs.run.one_number.Goals as goal

pub returns-in-Refused : goal.returns-in-Refused
returns-in-Refused c = sym (ap one_number c.in-Refused.is)
