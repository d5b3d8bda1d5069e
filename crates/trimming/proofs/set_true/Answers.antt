-- `trimming::set_true` meets its contract.
-- Assumes nothing.
use native.Mathlib.Omega.{arith}
use mathlib.Core.Path.{sym, ◌∙◌, ap}
use Rattle.trimming.proofs.CodeLaws.{opposite_bounds, opposite_other}
use Rattle.index.specs.Occurrences.{listed}
use Rattle.trimming.proofs.ThinLaws.{both_dropped}
use Rattle.trimming.proofs.set_true.Goals as goal

pub drop_clauses-requires : goal.drop_clauses-requires
drop_clauses-requires c =
    let pre = c.requires in
    (pre.0, pre.1, pre.2, pre.4, pre.5)

pub opposite-requires : goal.opposite-requires
opposite-requires c =
    let pre = c.requires in
    (pre.4, pre.5)

pub drop_literals-requires : goal.drop_literals-requires
drop_literals-requires c =
    let drop_clauses_call = c.drop_clauses in
    let pre = c.requires in
    let b = opposite_bounds (c.args.code) pre.4 pre.5 in (
      drop_clauses_call.ensures.0.passed.laid_out,
      drop_clauses_call.ensures.0.indexed,
      omega
          (arith, drop_clauses_call.ensures.0.passed.sized, pre.2),
      pre.3,
      omega (arith, b.0, c.opposite.ensures),
      omega
          (arith, b.1, c.opposite.ensures),
    )

pub returns : goal.returns
returns c =
    let drop_literals_call = c.drop_literals in
    let opposite_call = c.opposite in
    let drop_clauses_call = c.drop_clauses in
    let given = c.args in
    let pre = c.requires in
    let code = given.code in (
      both_dropped code pre.4 opposite_call.result opposite_call.ensures drop_clauses_call.ensures.0 drop_literals_call.ensures.0,
      drop_literals_call.ensures.1,
      drop_literals_call.ensures.3 code (omega (arith, pre.5))
          (λ e. opposite_other code pre.4 (e ∙ opposite_call.ensures)) ∙ drop_clauses_call.ensures.1,
      ap (λ n. listed n drop_literals_call.new.table)
          (sym opposite_call.ensures) ∙ drop_literals_call.ensures.2,
    )
