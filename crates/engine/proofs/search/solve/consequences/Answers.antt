-- `solve::consequences` meets its contract: each side's own step settles the group. Assumes nothing.
use Prim.Native.Nat.{◌+◌}
use mathlib.Core.Path.{◌≡◌}
use native.Mathlib.Omega.{arith}
use Rattle.engine.proofs.search.PropagationLaws.{lent_existential}
use Rattle.engine.proofs.search.SatisfiedLaws.{group_checked}
use Rattle.engine.proofs.search.solve.consequences.Goals as goal

pub propagate_from-requires : goal.propagate_from-requires
propagate_from-requires c =
    let pre = c.requires in
    let p = pre in
    let existential : c.args.side ≡ 0 = (let p = pre in omega arith) in record {
      lent = lent_existential existential pre.lent;
      k_lt_max_unknowns = (omega arith, omega arith, omega arith);
    }

pub returns-then-side-eq1 : goal.returns-then-side-eq1
returns-then-side-eq1 c =
    let given = c.args in
    rw c.if-side-eq1.true (λ _. group_checked given.kinds.now given.differences.now given.codes.now
    given.opened.now given.lo given.hi (given.k + 2) _ _ _ _ c.requires.kinds_len_bound.0 c.check.ensures)

pub returns-else-side-eq1 : goal.returns-else-side-eq1
returns-else-side-eq1 c =
    let given = c.args in
    let existential : given.side ≡ 0 = omega arith in
    rw existential (λ listed P k v seen. c.propagate_from.ensures listed P given.kinds.now k v seen.fits)
