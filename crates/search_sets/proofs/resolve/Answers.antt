-- `search_sets::resolve` meets its contract. The loop's invariant: the positions before p are followed. Assumes nothing.
use Prim.Native.Nat.{◌+◌}
use mathlib.Core.Path.{sym, ◌∙◌}
use native.Mathlib.Omega.{arith}
use lib.ListN.{length}
use Rattle.formula.specs.Formula.{max_unknowns}
use Rattle.search_sets.specs.Sets.{followed, resolved}
use Rattle.search_sets.proofs.TestLaws.{numbers_within}
use Rattle.search_sets.proofs.LoopLaws.{each_start, each_done}
use Rattle.search_sets.proofs.resolve.Goals as goal

pub returns-else-numbers_fit : goal.returns-else-numbers_fit
unfolding resolved
returns-else-numbers_fit c = rw (sym c.numbers_fit.ensures ∙ c.if-numbers_fit.false)

pub loop-p-init : goal.loop-p-init
loop-p-init c =
    let given = c.args in
    let within = numbers_within (length given.sets.now) given.of given.at (max_unknowns + 1) c.numbers_fit.ensures c.if-numbers_fit.true in
    (within.0, within.1, omega arith, omega arith, omega arith, each_start (followed given.of) given.k given.sets.now)

pub returns : goal.returns
unfolding resolved
returns c =
    let given = c.args in
    rw (sym c.numbers_fit.ensures ∙ c.if-numbers_fit.true)
    (each_done (followed given.of) given.k c.loop-p.p given.sets.now c.loop-p.sets c.loop-p.invariant.5 given.at
    (omega arith))
