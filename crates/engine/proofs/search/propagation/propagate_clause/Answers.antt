-- `propagation::propagate_clause` meets its contract: nothing follows, or the group is refuted, or a value is forced. Assumes nothing.
use mathlib.Core.Path.{refl, ◌∙◌}
use Rattle.formula.specs.Formula.{max_unknowns}
use Rattle.search_sets.proofs.MaskLaws.{kept_trans, kept_grown}
use Rattle.engine.proofs.search.CallLaws.{looks, empties, adds_reasons}
use Rattle.engine.proofs.search.PropagationLaws.{propagates_nothing, propagates_conflict}
use Rattle.engine.proofs.search.ReasonLaws.{propagates_shortened}
use native.Mathlib.Omega.{arith}
use Rattle.engine.proofs.search.HeldSteps.{same_kept}
use Rattle.engine.proofs.search.propagation.propagate_clause.Goals as goal

pub shape_of-work-then-c-eq1 : goal.shape_of-work-then-c-eq1
shape_of-work-then-c-eq1 c = refl

pub returns-then-c-eq1 : goal.returns-then-c-eq1
returns-then-c-eq1 c =
    let given = c.args in
    λ begins. propagates_nothing given.differences.now given.codes.now given.lo given.hi given.level given.work.now given.sets.now

pub note_conflict-requires : goal.note_conflict-requires
note_conflict-requires c =
    let pre = c.requires in
    (pre.lent.sets_lent, omega (arith, pre.lent.rows))

pub shorten-requires : goal.shorten-requires
shorten-requires c = c.add_reasons.auto.sets ∙ c.empty.auto.sets ∙
    c.note_conflict.auto.sets ∙
    c.requires.lent.sets_lent

pub shape_of-work-then-c-eq0 : goal.shape_of-work-then-c-eq0
shape_of-work-then-c-eq0 c = refl

pub shape_of-sets-then-c-eq0 : goal.shape_of-sets-then-c-eq0
shape_of-sets-then-c-eq0 c = c.shorten.auto.sets ∙ c.add_reasons.auto.sets ∙
    c.empty.auto.sets
    ∙ c.note_conflict.auto.sets

pub returns-then-c-eq0 : goal.returns-then-c-eq0
returns-then-c-eq0 c =
    let add_reasons_call = c.add_reasons in
    let empty_call = c.empty in
    let note_conflict_call = c.note_conflict in
    let look_call = c.look-c in
    let given = c.args in
    let pre = c.requires in
    let codes = given.codes.now in
    let i = given.i in
    let start = given.start in
    let work = given.work.now in
    λ begins.
    let emptied = kept_trans (same_kept note_conflict_call.ensures)
    (empties _ (note_conflict_call.auto.sets ∙ pre.lent.sets_lent) max_unknowns (omega arith) (omega arith)
    empty_call.ensures) in
    let reasons_added = adds_reasons _ (empty_call.auto.sets ∙ note_conflict_call.auto.sets ∙ pre.lent.sets_lent) codes start max_unknowns (omega arith)
    pre.lent.coded
    add_reasons_call.ensures in
    propagates_shortened given.differences.now codes pre.lent.coded given.lo given.hi given.level work given.sets.now
    add_reasons_call.new.sets
    c.shorten.new.sets i
    pre.lo_le_i.0 pre.lo_le_i.1 (kept_trans emptied (kept_grown (omega arith) reasons_added.grown))
    (propagates_conflict given.differences.now codes pre.lent.coded given.lo given.hi given.level work given.sets.now i start pre.lo_le_i.0
    pre.lo_le_i.1
    begins
    look_call.result (omega arith) (looks codes work i pre.lent.area (omega arith) pre.lent.coded start look_call.ensures) empty_call.new.sets
    add_reasons_call.new.sets emptied reasons_added)
    c.shorten.ensures

pub assign-requires : goal.assign-requires
assign-requires c =
    let given = c.args in
    let pre = c.requires in record {
      lent = pre.lent;
      lo_le_i = (
        pre.lo_le_i.0,
        pre.lo_le_i.1,
        pre.lo_le_i.2,
        omega arith,
        (looks given.codes.now given.work.now given.i pre.lent.area (omega arith)
            pre.lent.coded given.start c.look-c.ensures).fits (omega arith),
      );
    }

pub shape_of-work : goal.shape_of-work
shape_of-work c = c.assign.auto.work

pub shape_of-sets : goal.shape_of-sets
shape_of-sets c = c.assign.auto.sets

pub returns : goal.returns
returns c =
    let given = c.args in
    let pre = c.requires in
    λ begins. c.assign.ensures begins (looks given.codes.now given.work.now given.i pre.lent.area (omega arith)
    pre.lent.coded given.start c.look-c.ensures)
