-- `trimming::drop_clauses` meets its contract. The loop's invariant: no other clauses are dropped, and the index is kept.
-- Assumes nothing.
use mathlib.Core.Path.{refl, sym, ◌∙◌}
use Rattle.trimming.proofs.ThinLaws.{thinning_begins, next_here, thinning_more, thinning_less, thinning_ends}
use Rattle.trimming.proofs.drop_clauses.Goals as goal

pub loop-index-init : goal.loop-index-init
loop-index-init c =
    let given = c.args in
    let pre = c.requires in
    ((λ two small. thinning_begins given.code two small given.table.now given.index.now pre.0 pre.2 pre.1), refl, refl)

pub drop_clause-requires : goal.drop_clause-requires
drop_clause-requires c =
    let pre = c.requires in
    next_here (c.args.code) pre.3 pre.4 (c.loop-index.invariant.0 pre.3 pre.4)
    c.first_name-start.result (sym c.has_names.ensures ∙
    c.loop-index-test.true) c.first_name-start.ensures

pub loop-index-smaller : goal.loop-index-smaller
loop-index-smaller c =
    let drop_clause_call = c.drop_clause in
    let first_name_call = c.first_name-start in
    let pre = c.requires in
    thinning_less (c.args.code) pre.3 pre.4
    (c.loop-index.invariant.0 pre.3 pre.4) first_name_call.result
    (sym (c.has_names.ensures) ∙ c.loop-index-test.true) first_name_call.ensures drop_clause_call.new.table
    drop_clause_call.new.index drop_clause_call.ensures.0 drop_clause_call.ensures.1

pub loop-index-preserved : goal.loop-index-preserved
loop-index-preserved c =
    let drop_clause_call = c.drop_clause in
    let first_name_call = c.first_name-start in
    let loop = c.loop-index in (
      (λ two small. thinning_more (c.args.code) two small (loop.invariant.0 two small)
          first_name_call.result (sym (c.has_names.ensures) ∙ c.loop-index-test.true) first_name_call.ensures
          drop_clause_call.new.table drop_clause_call.new.index drop_clause_call.ensures.0 drop_clause_call.ensures.1),
      drop_clause_call.auto.table ∙ loop.invariant.1,
      drop_clause_call.auto.index ∙ loop.invariant.2,
    )

pub shape_of-table : goal.shape_of-table
shape_of-table c = c.loop-index.invariant.1

pub shape_of-index : goal.shape_of-index
shape_of-index c = c.loop-index.invariant.2

pub returns : goal.returns
returns c =
    let pre = c.requires in
    thinning_ends c.args.code pre.3 pre.4
    (c.loop-index.invariant.0 pre.3 pre.4) (sym c.has_names.ensures ∙ c.loop-index-test.false)
