-- `propagation::assign` meets its contract: the rows of the copy get the value that the clause forces. Assumes nothing.
use native.Mathlib.Omega.{arith}
use Rattle.engine.proofs.search.CallLaws.{adds_reasons, copy_from, copy_to, sets_rows}
use Rattle.engine.proofs.search.PropagationLaws.{propagates_assign_at}
use Rattle.engine.proofs.search.propagation.assign.Goals as goal

pub literal_position-k-requires : goal.literal_position-k-requires
literal_position-k-requires c = omega arith

pub note-requires : goal.note-requires
note-requires c = (omega arith, omega arith)

pub shape_of-work : goal.shape_of-work
shape_of-work c = omega arith

pub shape_of-sets : goal.shape_of-sets
shape_of-sets c = omega arith

pub returns : goal.returns
returns c =
    let set_rows_call = c.set_rows in
    let copy_end_call = c.copy_end-to in
    let copy_start_call = c.copy_start-from in
    let add_reasons_call = c.add_reasons in
    let literal_position_call = c.literal_position-k in
    let given = c.args in
    let pre = c.requires in
    let i = given.i in
    let differences = given.differences.now in
    λ begins looked.
    let copied_from = copy_from differences literal_position_call.result given.lo i (omega arith) (omega arith) copy_start_call.ensures in
    let copied_to = copy_to differences literal_position_call.result i given.hi (omega arith) (omega arith) copy_end_call.ensures in
    propagates_assign_at differences given.codes.now pre.lent.coded given.lo given.hi given.level given.work.now given.sets.now i
    given.start
    pre.lo_le_i.0 pre.lo_le_i.1 begins
    literal_position_call.result given.c literal_position_call.ensures pre.lo_le_i.3 looked add_reasons_call.new.sets
    c.note.new.sets
    (adds_reasons _ pre.lent.sets_lent given.codes.now given.start literal_position_call.result (omega arith) pre.lent.coded
    add_reasons_call.ensures)
    c.note.ensures set_rows_call.new.work copy_start_call.result copy_end_call.result copied_from copied_to
    (sets_rows pre.lent.area literal_position_call.result copy_start_call.result copy_end_call.result given.level _ (omega arith) (omega arith)
    (omega arith) set_rows_call.ensures)
