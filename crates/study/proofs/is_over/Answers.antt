-- `study::is_over` meets its contract. Assumes nothing.
use mathlib.Core.Path.{ap}
use Rattle.study.specs.Private.Turns.{is_end}
use Rattle.study.proofs.TurnLaws.{over_if_last}
use Rattle.study.proofs.is_over.Goals as goal

pub returns-in-Spent : goal.returns-in-Spent
returns-in-Spent c = over_if_last c.args.answer _ (ap is_end c.in-Spent.is)

pub returns-in-NoRoomUniversal : goal.returns-in-NoRoomUniversal
returns-in-NoRoomUniversal c = over_if_last c.args.answer _ (ap is_end c.in-NoRoomUniversal.is)

pub returns-in-NoRoomExistential : goal.returns-in-NoRoomExistential
returns-in-NoRoomExistential c = over_if_last c.args.answer _ (ap is_end c.in-NoRoomExistential.is)
