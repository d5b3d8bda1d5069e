-- `solve::from_start` meets its contract. Assumes nothing.
use native.Mathlib.Omega.{arith}
use mathlib.Core.Path.{◌∙◌}
use Rattle.engine.proofs.search.SearchSteps.{start_searched, start_refuted}
use Rattle.engine.proofs.search.solve.from_start.Goals as goal

pub consequences_at_start-requires : goal.consequences_at_start-requires
consequences_at_start-requires c =
    let pre = c.requires in record {
      lent = record {
        rows = pre.2;
        entries = pre.3;
        coded = pre.4;
        area = pre.7;
        sets_lent = c.open_terms.auto.sets;
        index_lent = pre.5;
      };
      kinds_len_bound = (pre.0, pre.6);
    }

pub solve-requires : goal.solve-requires
solve-requires c =
    let consequences_at_start_call = c.consequences_at_start in
    let pre = c.requires in record {
      lent = record {
        rows = pre.2;
        entries = pre.3;
        coded = pre.4;
        area = consequences_at_start_call.auto.work ∙ pre.7;
        sets_lent = consequences_at_start_call.auto.sets ∙
            c.open_terms.auto.sets;
        index_lent = pre.5;
      };
      kinds_len_bound = (pre.0, pre.6, (omega arith), pre.1, (omega arith));
    }

pub returns-then-consequences_at_start : goal.returns-then-consequences_at_start
returns-then-consequences_at_start c =
    let open_terms_call = c.open_terms in
    let given = c.args in
    let pre = c.requires in
    λ tabled. start_searched given.kinds.now given.differences.now given.codes.now _ given.block.now given.side
    (let p = pre in omega arith) _ _
    _ _ _ (c.consequences_at_start.ensures tabled.indexed)
    (λ universal coded. open_terms_call.ensures universal (pre.0, tabled.sized universal, pre.7, pre.2, open_terms_call.auto.opened)
    coded (tabled.told universal)) pre.0 _ _ _ c.if-consequences_at_start.true (c.solve.ensures tabled.indexed)

pub returns-else-consequences_at_start : goal.returns-else-consequences_at_start
returns-else-consequences_at_start c =
    let open_terms_call = c.open_terms in
    let given = c.args in
    let pre = c.requires in
    λ tabled. start_refuted given.kinds.now given.differences.now given.codes.now _ given.block.now given.side
    (let p = pre in omega arith) _ _ _
    _ _ (c.consequences_at_start.ensures tabled.indexed)
    (λ universal coded. open_terms_call.ensures universal (pre.0, tabled.sized universal, pre.7, pre.2, open_terms_call.auto.opened)
    coded (tabled.told universal)) pre.0 c.if-consequences_at_start.false
