-- `first_model_over` meets its contract. Assumes nothing.
use Prim.Native.Nat.{◌-◌}
use Rattle.std.specs.Prelude.{Result, Err}
use Rattle.cause.specs.declared.Cause.{Cause}
use mathlib.Core.Path.{◌≡◌, sym, ◌∙◌, ap, subst}
use borrow.Author.Rules.{rules}
use lib.ListN.{length}
use Rattle.expansion.specs.OtherSide.{side_of}
use Rattle.engine.specs.declared.search.Search.{Search}
use Rattle.engine.specs.Private.Prepared.{SearchedOver}
use Rattle.engine.proofs.search.OutcomeLaws.{universals_most, others_existential, others_universal}
use Rattle.engine.proofs.search.PreparedLaws.{one, tables_lent, over_refused_kinds, over_refused_tables, over_answered}
use native.Mathlib.Omega.{arith}
use Rattle.engine.proofs.search.first_model_over.Goals as goal

pub returns-then-not-fit : goal.returns-then-not-fit
returns-then-not-fit c =
    let q = c.args in
    over_refused_tables q.kinds.now q.codes.now q.index.now q.terms.now q.preferences.now q.own.now q.known q.rows.now q.count
    q.universal q.work.now
    c.in_ok-formula.formula (sym c.check.ensures.value ∙ c.in_ok-formula.was)
    (sym c.fit.ensures ∙ c.if-not-fit.true)

pub overflow_sub-others : goal.overflow_sub-others
overflow_sub-others c =
    universals_most c.args.kinds.now one c.in_ok-formula.formula
    (sym c.check.ensures.value ∙ c.in_ok-formula.was)

pub over_rows-requires : goal.over_rows-requires
over_rows-requires c =
    let given = c.args in
    let passed = sym c.check.ensures.value ∙ c.in_ok-formula.was in
    record {
      tables = tables_lent given.kinds.now given.codes.now given.index.now c.in_ok-formula.formula passed
          (sym c.fit.ensures ∙ c.if-not-fit.false);
      others_known = others_universal given.kinds.now one c.in_ok-formula.formula passed;
      side_fits = omega arith;
    }

pub over_rows-requires-else-universal : goal.over_rows-requires-else-universal
over_rows-requires-else-universal c =
    let given = c.args in
    let passed = sym c.check.ensures.value ∙ c.in_ok-formula.was in
    record {
      tables = tables_lent given.kinds.now given.codes.now given.index.now c.in_ok-formula.formula passed
          (sym c.fit.ensures ∙ c.if-not-fit.false);
      others_known = others_existential given.kinds.now one c.in_ok-formula.formula passed;
      side_fits = omega arith;
    }

pub returns-in_err-formula : goal.returns-in_err-formula
returns-in_err-formula c =
    let q = c.args in
    let same : c.from_residual.result ≡ Err c.in_err-formula.field-0.0 = search rules in
    subst (λ (r : Result Search Cause).
    SearchedOver q.kinds.now q.codes.now q.index.now q.terms.now q.preferences.now q.own.now q.known q.rows.now q.count q.universal q.work.now r q.work.now)
    (sym same)
    (over_refused_kinds q.kinds.now q.codes.now q.index.now q.terms.now q.preferences.now q.own.now q.known q.rows.now q.count
    q.universal q.work.now c.in_err-formula.field-0.0 (sym c.check.ensures.value ∙ c.in_err-formula.was))

pub shape_of-work-then-universal : goal.shape_of-work-then-universal
shape_of-work-then-universal c = c.over_rows.auto.work

pub returns-then-universal : goal.returns-then-universal
returns-then-universal c =
    let q = c.args in
    let passed = sym c.check.ensures.value ∙ c.in_ok-formula.was in
    over_answered q.kinds.now q.codes.now q.index.now q.terms.now q.preferences.now q.own.now q.known q.rows.now q.count
    q.universal q.work.now c.in_ok-formula.formula passed
    (sym c.fit.ensures ∙ c.if-not-fit.false)
    (length q.kinds.now - c.in_ok-formula.formula.universals) 1 (ap side_of (sym c.if-universal.true))
    (others_universal q.kinds.now one c.in_ok-formula.formula passed) _ _
    c.over_rows.ensures

pub shape_of-work-else-universal : goal.shape_of-work-else-universal
shape_of-work-else-universal c = c.over_rows-else-universal.auto.work

pub returns-else-universal : goal.returns-else-universal
returns-else-universal c =
    let q = c.args in
    let passed = sym c.check.ensures.value ∙ c.in_ok-formula.was in
    over_answered q.kinds.now q.codes.now q.index.now q.terms.now q.preferences.now q.own.now q.known q.rows.now q.count
    q.universal q.work.now c.in_ok-formula.formula passed
    (sym c.fit.ensures ∙ c.if-not-fit.false) c.in_ok-formula.formula.universals 0
    (ap side_of (sym c.if-universal.false)) (others_existential q.kinds.now one c.in_ok-formula.formula passed) _ _
    c.over_rows-else-universal.ensures
