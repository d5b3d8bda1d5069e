-- `search_evaluation::is_true` meets its contract. Assumes nothing.
use native.Mathlib.Omega.{arith}
use Prim.Native.Nat.{◌%◌}
use mathlib.Core.Path.{ap}
use mathlib.Core.Bool.{not}
use borrow.Author.Tests.{eq-eqb, ne_eqb}
use Rattle.search_evaluation.specs.Evaluation.{is_true}
use Rattle.search_evaluation.proofs.CellReads.{value_by}
use Rattle.search_evaluation.proofs.is_true.Goals as goal

pub returns-then-c-eq0 : goal.returns-then-c-eq0
unfolding is_true
returns-then-c-eq0 c =
    let given = c.args in
    rw (eq-eqb (given.c % 2) 0 (omega arith)) (value_by given.work.now given.i given.c c.position.result
    c.requires.1 c.position.ensures)

pub returns : goal.returns
unfolding is_true
returns c =
    let given = c.args in
    rw (ne_eqb (given.c % 2) 0 (λ z. omega arith))
    (ap not (value_by given.work.now given.i given.c c.position.result c.requires.1
    c.position.ensures))
