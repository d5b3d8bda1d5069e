-- `solve::reached` meets its contract: a false clause reaches the universal side's goal. Assumes nothing.
use native.Mathlib.Omega.{arith}
use Rattle.engine.proofs.search.GoalLaws.{reached_false, reached_after}
use Rattle.engine.proofs.search.solve.reached.Goals as goal

pub values_reach-requires : goal.values_reach-requires
values_reach-requires c = c.requires

pub returns-then-side-eq0 : goal.returns-then-side-eq0
returns-then-side-eq0 c = c.values_reach.ensures

pub returns-then-finds_false : goal.returns-then-finds_false
returns-then-finds_false c =
    let given = c.args in
    let pre = c.requires in
    reached_false given.codes.now given.work.now given.i pre.0 pre.2 pre.4 given.side _ _
    c.if-side-eq0.false c.finds_false.ensures c.if-finds_false.true

pub values_reach-requires-2 : goal.values_reach-requires-2
values_reach-requires-2 c =
    let pre = c.requires in
    (pre.0, omega (arith, pre.1, c.finds_false.auto.sets), pre.2, pre.3, pre.4)

pub returns : goal.returns
returns c =
    let given = c.args in
    reached_after given.codes.now given.side given.work.now given.i _ _ _ c.finds_false.ensures.kept
    c.values_reach-2.ensures
