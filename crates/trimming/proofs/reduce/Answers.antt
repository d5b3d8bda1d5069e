-- `trimming::reduce` meets its contract. The loop's invariant: the clauses that are still named can alone be reduced.
-- Assumes nothing.
use Prim.Native.Nat.{ℕ, ◌+◌}
use mathlib.Core.Path.{◌∙◌, subst}
use mathlib.Core.List.{List}
use lib.ListN.{drop, drop_of_length-le}
use Rattle.formula.proofs.Places.{drop_front}
use Rattle.trimming.specs.Private.Table.{Pending}
use Rattle.trimming.proofs.NamedLaws.{get_or_in}
use Rattle.trimming.proofs.AgainLaws.{pending_here, reducing_more, reducing_ends, units_reduced, list_kept}
use Rattle.trimming.proofs.reduce.Goals as goal

pub reduce_clause-requires : goal.reduce_clause-requires
reduce_clause-requires c =
    let loop = c.loop-start in
    pending_here c.args.kinds.now (subst (λ (l : List ℕ). Pending c.args.kinds.now l loop.table loop.index)
    (drop_front c.args.names.now loop.start-index 0 c.loop-start-test.true) loop.invariant.1)

pub loop-start-preserved : goal.loop-start-preserved
loop-start-preserved c =
    let loop = c.loop-start in
    let kinds = c.args.kinds.now in
    let names = c.args.names.now in
    let clause = c.reduce_clause in
    let p = subst (λ (l : List ℕ). Pending kinds l loop.table loop.index) (drop_front names loop.start-index 0 c.loop-start-test.true)
    loop.invariant.1 in
    let r = reducing_more kinds (pending_here kinds p) clause.new.table clause.ensures.0 (drop (loop.start-index + 1) names) clause.new.index
    clause.ensures.1 loop.invariant.0 p in (
      r.0,
      r.1,
      λ firsts u. units_reduced kinds (pending_here kinds p) clause.new.table clause.ensures.0 firsts names
          (get_or_in names loop.start-index c.loop-start-test.true) (loop.invariant.2 firsts u),
      list_kept kinds (pending_here kinds p) clause.new.table clause.ensures.0 ∙ loop.invariant.3,
    )

pub returns-clause-passed : goal.returns-clause-passed
returns-clause-passed c =
    let loop = c.loop-start in
    reducing_ends c.args.kinds.now loop.invariant.0 (subst (λ (l : List ℕ). Pending c.args.kinds.now l loop.table loop.index)
    (drop_of_length-le c.args.names.now {i = loop.start-index} c.loop-start-test.false) loop.invariant.1)
