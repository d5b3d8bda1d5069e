-- `run::opened` meets its contract. Assumes nothing.
use Rattle.engine.proofs.run.OpeningLaws.{opened_met}
use Rattle.engine.proofs.run.opened.Goals as goal

pub returns-in-True : goal.returns-in-True
returns-in-True c =
    let q = c.args in
    opened_met q.end q.kinds.now q.universal_rows.now q.existential_rows.now c.in-True.is c.opened_by.ensures

pub returns-in-False : goal.returns-in-False
returns-in-False c =
    let q = c.args in
    opened_met q.end q.kinds.now q.universal_rows.now q.existential_rows.now c.in-False.is c.opened_by-in-False.ensures

pub returns-in-Spent : goal.returns-in-Spent
returns-in-Spent c =
    let q = c.args in
    opened_met q.end q.kinds.now q.universal_rows.now q.existential_rows.now c.in-Spent.is c.unopened.ensures

pub returns-in-NoRoomUniversal : goal.returns-in-NoRoomUniversal
returns-in-NoRoomUniversal c =
    let q = c.args in
    opened_met q.end q.kinds.now q.universal_rows.now q.existential_rows.now c.in-NoRoomUniversal.is c.unopened-in-NoRoomUniversal.ensures

pub returns-in-NoRoomExistential : goal.returns-in-NoRoomExistential
returns-in-NoRoomExistential c =
    let q = c.args in
    opened_met q.end q.kinds.now q.universal_rows.now q.existential_rows.now c.in-NoRoomExistential.is c.unopened-in-NoRoomExistential.ensures

pub returns-in-Refused : goal.returns-in-Refused
returns-in-Refused c =
    let q = c.args in
    opened_met q.end q.kinds.now q.universal_rows.now q.existential_rows.now c.in-Refused.is c.unopened-in-Refused.ensures
