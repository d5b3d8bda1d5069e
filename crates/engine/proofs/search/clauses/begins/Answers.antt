-- `clauses::begins` meets its contract. Assumes nothing.
use Prim.Native.Nat.{◌-◌}
use mathlib.Core.Logic.{inl, inr}
use mathlib.Core.Bool.{false≢true}
use borrow.Author.Tests.{eqb-true}
use lib.ListN.{get_or}
use Rattle.engine.proofs.search.clauses.begins.Goals as goal

pub returns-then-start-eq0 : goal.returns-then-start-eq0
returns-then-start-eq0 c = λ e. inl c.if-start-eq0.true

pub returns-then-start-codes : goal.returns-then-start-codes
returns-then-start-codes c =
    let given = c.args in
    λ e. inr (eqb-true (get_or given.codes.now (given.start - 1) 0) 0 e)

pub returns-else-start-codes : goal.returns-else-start-codes
returns-else-start-codes c = λ e. absurd (false≢true e)
