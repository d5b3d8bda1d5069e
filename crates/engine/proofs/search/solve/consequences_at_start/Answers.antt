-- `solve::consequences_at_start` meets its contract: each side's own step settles the group. Assumes nothing.
use mathlib.Core.Path.{◌≡◌}
use native.Mathlib.Omega.{arith}
use lib.ListN.{length}
use Rattle.engine.proofs.search.PropagationLaws.{lent_existential}
use Rattle.engine.proofs.search.SatisfiedLaws.{group_checked}
use Rattle.engine.proofs.search.solve.consequences_at_start.Goals as goal

pub propagate_all-requires : goal.propagate_all-requires
propagate_all-requires c =
    let pre = c.requires in
    let existential : c.args.side ≡ 0 = (let p = pre in omega arith) in lent_existential existential pre.lent

pub returns-then-side-eq1 : goal.returns-then-side-eq1
returns-then-side-eq1 c =
    let given = c.args in
    rw c.if-side-eq1.true (λ _. group_checked given.kinds.now given.differences.now given.codes.now
    given.opened.now 0 (length given.differences.now) 1 _ _ _ _ c.requires.kinds_len_bound.0 c.check_given.ensures)

pub returns-else-side-eq1 : goal.returns-else-side-eq1
returns-else-side-eq1 c =
    let given = c.args in
    let existential : given.side ≡ 0 = omega arith in
    rw existential (λ listed P k v seen. c.propagate_all.ensures listed P given.kinds.now k v seen.fits)
