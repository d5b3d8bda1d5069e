-- `codes::add` meets its contract. Assumes nothing.
use native.Mathlib.Omega.{arith}
use lib.ListN.{length-set}
use Rattle.codes.proofs.ReadLaws.{added_first, added_behind}
use Rattle.codes.proofs.add.Goals as goal
use Rattle.codes.proofs.add.Goals.{else-start-to, then-start-to+else-first-code}

pub bounds-codes-start-then-first-code : goal.bounds-codes-start-then-first-code
bounds-codes-start-then-first-code c = simp length-set (omega arith)

pub returns-then-first-code : goal.returns-then-first-code
returns-then-first-code c =
    let given = c.args in
    added_first given.start given.to given.code given.codes.now c.requires.1 c.if-start-to.true (omega arith)

pub returns : goal.returns
returns c =
    let given = c.args in
    added_behind given.start given.to given.code given.codes.now c.requires.1
    (λ some. elim c.if-start-to.branch [ then-start-to+else-first-code w ↦ omega (arith, w.if-first-code.false) | else-start-to w ↦ absurd (omega (arith, w.if-start-to.false)) ])
