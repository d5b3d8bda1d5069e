-- `trimming::drop_true` meets its contract. The loop's invariant: the clauses passed are changed, and the others are not.
-- Assumes nothing.
use native.Mathlib.Omega.{arith}
use mathlib.Core.Path.{refl, ◌∙◌}
use lib.ListN.{drop}
use Rattle.trimming_marks.specs.Marks.{first_clause}
use Rattle.trimming_rules.specs.Private.Rounds.{untrue}
use Rattle.trimming.specs.Private.Table.{true_from}
use Rattle.trimming.proofs.TrueLaws.{untrue_local, true_dropped}
use Rattle.trimming.proofs.PassLaws.{passing_begins, passing_more, passing_ends, goes_on}
use Rattle.trimming.proofs.drop_true.Goals as goal

pub loop-start-init : goal.loop-start-init
loop-start-init c = (passing_begins untrue untrue_local c.requires.0, c.requires.1, refl)

pub drop_if_true-requires : goal.drop_if_true-requires
drop_if_true-requires c =
    let loop = c.loop-start in
    (loop.invariant.0.at, c.loop-start-test.true, loop.invariant.1, omega (arith, loop.invariant.0.sized, c.requires.2))

pub loop-start-smaller : goal.loop-start-smaller
loop-start-smaller c =
    let w = goes_on (c.loop-start.invariant.0.at) (c.loop-start-test.true) in
    omega (arith, c.past-next.ensures, c.drop_if_true.auto.table)

pub loop-start-preserved : goal.loop-start-preserved
loop-start-preserved c =
    let drop_if_true_call = c.drop_if_true in
    let past_call = c.past-next in
    let loop = c.loop-start in (
      passing_more untrue untrue_local true_from (λ l. 511) true_dropped loop.invariant.0 (c.loop-start-test.true)
          (true_from (first_clause (drop loop.start loop.table))) 511 past_call.result drop_if_true_call.new.table refl refl past_call.ensures
          drop_if_true_call.ensures.0,
      drop_if_true_call.ensures.1,
      drop_if_true_call.auto.index ∙ loop.invariant.2,
    )

pub shape_of-table : goal.shape_of-table
shape_of-table c = c.loop-start.invariant.0.sized

pub shape_of-index : goal.shape_of-index
shape_of-index c = c.loop-start.invariant.2

pub returns : goal.returns
returns c = (passing_ends untrue untrue_local c.loop-start.invariant.0 c.loop-start-test.false, c.loop-start.invariant.1)
