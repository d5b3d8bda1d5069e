-- `decision::front_end` meets its contract. Assumes nothing.
use mathlib.Core.Path.{sym, ap}
use mathlib.Core.Bool.{Bool, cond}
use borrow.Author.Tests.{lt-ltb, le-ltb}
use Rattle.formula.specs.Formula.{work_size}
use Rattle.decision.proofs.front_end.Goals as goal

pub returns-then-bytes-lt-WORK : goal.returns-then-bytes-lt-WORK
returns-then-bytes-lt-WORK c =
    let if1_test = c.if-bytes-lt-WORK in
    let lent = c.args in
    sym (ap (λ (b : Bool). cond b lent.bytes work_size) (lt-ltb lent.bytes work_size if1_test.true))

pub returns : goal.returns
returns c =
    let if1_test = c.if-bytes-lt-WORK in
    let lent = c.args in
    sym (ap (λ (b : Bool). cond b lent.bytes work_size) (le-ltb lent.bytes work_size if1_test.false))
