use Rattle.engine.specs.declared.run.Answer.TheVariants.{False, True, Spent, NoRoomUniversal, NoRoomExistential, Refused}
use Rattle.decision_record.proofs.PutLaws.{charged_put, answer_put}
use Rattle.decision_record.proofs.put.Goals as goal

-- src/lib.rt:13:1
pub returns-in-Refused : goal.returns-in-Refused
returns-in-Refused c =
    let given = c.args in
    let both = answer_put given.out.now given.decision given.kinds.now (Refused c.in-Refused.cause) c.in-Refused.is
    (c.refusal.ensures.value, c.refusal.ensures.out_after) in
    record { counted = both.0; written = both.1.0; proved = both.1.1 }

-- src/lib.rt:13:1
pub returns-in-False : goal.returns-in-False
returns-in-False c =
    let given = c.args in
    let out = given.out.now in
    let charged_so = charged_put out 0 given.decision.round given.kinds.now c.fee-charge.ensures.charged.value
    (c.put_charge.ensures.value, c.put_charge.ensures.out_after) in
    let both = answer_put out given.decision given.kinds.now False c.in-False.is charged_so in
    record { counted = both.0; written = both.1.0; proved = both.1.1 }

-- src/lib.rt:13:1
pub returns-in-True : goal.returns-in-True
returns-in-True c =
    let given = c.args in
    let out = given.out.now in
    let charged_so = charged_put out 1 given.decision.round given.kinds.now c.fee-charge.ensures.charged.value
    (c.put_charge-in-True.ensures.value, c.put_charge-in-True.ensures.out_after) in
    let both = answer_put out given.decision given.kinds.now True c.in-True.is charged_so in
    record { counted = both.0; written = both.1.0; proved = both.1.1 }

-- src/lib.rt:13:1
pub returns-in-Spent : goal.returns-in-Spent
returns-in-Spent c =
    let given = c.args in
    let out = given.out.now in
    let charged_so = charged_put out 2 given.decision.round given.kinds.now c.fee-charge.ensures.charged.value
    (c.put_charge-in-Spent.ensures.value, c.put_charge-in-Spent.ensures.out_after) in
    let both = answer_put out given.decision given.kinds.now Spent c.in-Spent.is charged_so in
    record { counted = both.0; written = both.1.0; proved = both.1.1 }

-- src/lib.rt:13:1
pub returns-in-NoRoomUniversal : goal.returns-in-NoRoomUniversal
returns-in-NoRoomUniversal c =
    let given = c.args in
    let out = given.out.now in
    let charged_so = charged_put out 3 given.decision.round given.kinds.now c.fee-charge.ensures.charged.value
    (c.put_charge-in-NoRoomUniversal.ensures.value, c.put_charge-in-NoRoomUniversal.ensures.out_after) in
    let both = answer_put out given.decision given.kinds.now NoRoomUniversal c.in-NoRoomUniversal.is charged_so in
    record { counted = both.0; written = both.1.0; proved = both.1.1 }

-- src/lib.rt:13:1
pub returns-in-NoRoomExistential : goal.returns-in-NoRoomExistential
returns-in-NoRoomExistential c =
    let given = c.args in
    let out = given.out.now in
    let charged_so = charged_put out 4 given.decision.round given.kinds.now c.fee-charge.ensures.charged.value
    (c.put_charge-in-NoRoomExistential.ensures.value, c.put_charge-in-NoRoomExistential.ensures.out_after) in
    let both = answer_put out given.decision given.kinds.now NoRoomExistential c.in-NoRoomExistential.is charged_so in
    record { counted = both.0; written = both.1.0; proved = both.1.1 }
