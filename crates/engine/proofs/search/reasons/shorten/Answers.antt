-- `reasons::shorten` meets its contract: the set at CONFLICT stays, or is that of a reason. Assumes nothing.
use Rattle.engine.proofs.search.ReasonLaws.{shortened_none, shortened_new}
use Rattle.engine.proofs.search.HeldSteps.{same_trans}
use native.Mathlib.Omega.{arith}
use Rattle.engine.proofs.search.reasons.shorten.Goals as goal

pub is_due-requires : goal.is_due-requires
is_due-requires c = omega arith

pub shape_of-sets-else-is_due : goal.shape_of-sets-else-is_due
shape_of-sets-else-is_due c = omega arith

pub returns-else-is_due : goal.returns-else-is_due
returns-else-is_due c =
    let is_due_call = c.is_due in
    let given = c.args in
    shortened_none given.codes.now given.work.now given.i given.level given.sets.now is_due_call.new.sets is_due_call.ensures

pub bounds-sets-516 : goal.bounds-sets-516
bounds-sets-516 c = omega arith

pub bounds-sets-519 : goal.bounds-sets-519
bounds-sets-519 c = omega arith

pub note-requires : goal.note-requires
note-requires c = omega arith

pub shape_of-sets-then-reason : goal.shape_of-sets-then-reason
shape_of-sets-then-reason c = omega arith

pub returns-then-reason : goal.returns-then-reason
returns-then-reason c =
    shortened_new c.args.codes.now c.args.work.now c.args.i
    c.args.level c.depth.result _ _ _ c.args.sets.now
    c.is_due.new.sets c.note.new.sets c.empty.new.sets
    c.unite_words.new.sets
    c.is_due.ensures c.note.ensures (omega arith) (omega arith) c.depth.ensures
    c.shorter-reason.ensures c.if-reason.true c.empty.ensures
    c.unite_words.ensures

pub shape_of-sets-else-reason : goal.shape_of-sets-else-reason
shape_of-sets-else-reason c = omega arith

pub returns-else-reason : goal.returns-else-reason
returns-else-reason c =
    let note_call = c.note in
    let given = c.args in
    shortened_none given.codes.now given.work.now given.i given.level given.sets.now note_call.new.sets
    (same_trans c.is_due.ensures note_call.ensures)
