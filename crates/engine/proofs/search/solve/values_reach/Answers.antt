-- `solve::values_reach` meets its contract: the matrix is the goal on the existential side, and its opposite on the other. Assumes nothing.
use mathlib.Core.Logic.{inl, inr}
use native.Mathlib.Omega.{arith}
use Rattle.formula.specs.Formula.{max_unknowns}
use Rattle.engine.proofs.search.CallLaws.{matrix_of, fills_kept, fills}
use Rattle.engine.proofs.search.GoalLaws.{reached_goal, reached_not}
use Rattle.engine.proofs.search.solve.values_reach.Goals as goal
use Rattle.engine.proofs.search.solve.values_reach.Goals.{else-side-eq0+then-all-2, then-side-eq0+else-all}

pub returns-then-all : goal.returns-then-all
returns-then-all c =
    let given = c.args in
    let pre = c.requires in
    reached_goal given.codes.now given.side given.work.now given.i given.sets.now c.matrix-all.result
    (matrix_of given.codes.now given.work.now given.i pre.0 pre.2 pre.4 c.matrix-all.ensures)
    (inl (c.if-side-eq0.true, c.if-all.true))

pub returns-else-all-2 : goal.returns-else-all-2
returns-else-all-2 c =
    let given = c.args in
    let pre = c.requires in
    reached_goal given.codes.now given.side given.work.now given.i given.sets.now c.matrix-all.result
    (matrix_of given.codes.now given.work.now given.i pre.0 pre.2 pre.4 c.matrix-all.ensures)
    (inr (c.if-side-eq0.false, c.if-all-2.false))

pub returns : goal.returns
returns c =
    let fill_call = c.fill in
    let matrix_call = c.matrix-all in
    let given = c.args in
    let pre = c.requires in
    reached_not given.codes.now given.side given.work.now given.i given.sets.now matrix_call.result
    (matrix_of given.codes.now given.work.now given.i pre.0 pre.2 pre.4 matrix_call.ensures) fill_call.new.sets
    (elim c.if-side-eq0.branch [ then-side-eq0+else-all w ↦ inl (w.if-side-eq0.true, w.if-all.false) | else-side-eq0+then-all-2 w ↦ inr (w.if-side-eq0.false, w.if-all-2.true) ])
    (fills_kept _ pre.1 max_unknowns (omega arith) (omega arith) fill_call.ensures) (fills given.sets.now pre.1 max_unknowns (omega arith)
    fill_call.ensures)
