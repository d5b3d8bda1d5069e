-- `propagation::propagate_from` meets its contract. Assumes nothing.
use Prim.Native.Nat.{◌+◌}
use mathlib.Core.Path.{◌∙◌}
use native.Mathlib.Omega.{arith}
use Rattle.formula.specs.Formula.{max_unknowns}
use Rattle.engine.proofs.search.CallLaws.{empties}
use Rattle.engine.proofs.search.PropagationLaws.{noted_first, lent_noted}
use Rattle.engine.proofs.search.propagation.propagate_from.Goals as goal

pub note-requires : goal.note-requires
note-requires c = (omega arith, omega arith)

pub overflow_cast-k : goal.overflow_cast-k
overflow_cast-k c = omega arith

pub overflow_add-k : goal.overflow_add-k
overflow_add-k c = omega arith

pub propagate-requires : goal.propagate-requires
propagate-requires c =
    let pre = c.requires in record {
      lent = lent_noted pre.lent (c.note.auto.sets ∙ c.empty.auto.sets);
      hi_in_bounds = pre.k_lt_max_unknowns.2;
    }

pub shape_of-work : goal.shape_of-work
shape_of-work c = c.propagate.auto.work

pub shape_of-sets : goal.shape_of-sets
shape_of-sets c = c.propagate.auto.sets ∙ c.note.auto.sets ∙
    c.empty.auto.sets

pub returns : goal.returns
returns c =
    let propagate_call = c.propagate in
    let note_call = c.note in
    let empty_call = c.empty in
    let given = c.args in
    λ listed. noted_first given.differences.now given.codes.now given.lo given.hi (given.k + 2) given.work.now
    propagate_call.new.work
    given.sets.now empty_call.new.sets propagate_call.new.sets propagate_call.result
    (empties _ c.requires.lent.sets_lent (max_unknowns + 1) (omega arith) (omega arith)
    empty_call.ensures)
    (noted_first given.differences.now given.codes.now given.lo given.hi (given.k + 2) given.work.now propagate_call.new.work
    empty_call.new.sets note_call.new.sets propagate_call.new.sets propagate_call.result note_call.ensures
    (propagate_call.ensures listed))
