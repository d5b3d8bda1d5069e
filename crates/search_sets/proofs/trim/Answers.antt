-- `search_sets::trim` meets its contract. The loop's invariant: the sets before p are trimmed. Assumes nothing.
use Prim.Native.Nat.{◌+◌}
use mathlib.Core.Path.{sym, ◌∙◌}
use native.Mathlib.Omega.{arith}
use lib.ListN.{length}
use Rattle.formula.specs.Formula.{max_unknowns}
use Rattle.search_sets.specs.Sets.{cut_at, trimmed}
use Rattle.search_sets.proofs.TestLaws.{numbers_within}
use Rattle.search_sets.proofs.LoopLaws.{each_start, each_done}
use Rattle.search_sets.proofs.trim.Goals as goal

pub returns-else-numbers_fit : goal.returns-else-numbers_fit
unfolding trimmed
returns-else-numbers_fit c = rw (sym c.numbers_fit.ensures ∙ c.if-numbers_fit.false)

pub loop-p-init : goal.loop-p-init
loop-p-init c =
    let given = c.args in
    let k = given.k in
    let within = numbers_within (length given.sets.now) k given.n (max_unknowns + 1) c.numbers_fit.ensures
    c.if-numbers_fit.true in
    (within.0, omega arith, omega arith, omega arith, each_start (cut_at k) k given.sets.now)

pub returns : goal.returns
unfolding trimmed
returns c =
    let given = c.args in
    rw (sym c.numbers_fit.ensures ∙ c.if-numbers_fit.true)
    (each_done (cut_at given.k) given.k c.loop-p.p given.sets.now c.loop-p.sets c.loop-p.invariant.4 given.n
    (omega arith))
