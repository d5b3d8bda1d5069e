-- `run::check` meets its contract. Assumes nothing.
use Rattle.std.specs.Prelude.{Err}
use mathlib.Core.Path.{◌≡◌, sym, ◌∙◌, subst}
use borrow.Author.Rules.{rules}
use Rattle.engine.specs.Private.Growing.{FirstCause}
use Rattle.engine.proofs.run.OutcomeLaws.{formula_refused, tables_refused, counts_refused, work_refused, limit_refused, none_applies}
use Rattle.engine.proofs.run.check.Goals as goal

pub returns-in_err-formula : goal.returns-in_err-formula
returns-in_err-formula c =
    let q = c.args in
    let same : c.from_residual.result ≡ Err c.in_err-formula.field-0.0 = search rules in
    subst (FirstCause _) (sym same)
    (formula_refused q.kinds.now q.literals.now q.universal_rows.now q.universal_marks.now q.universal_counts.now q.existential_rows.now
    q.existential_marks.now q.existential_counts.now q.work.now q.limit
    c.in_err-formula.field-0.0 (sym c.check.ensures.value ∙ c.in_err-formula.was))

pub returns-then-not-fits : goal.returns-then-not-fits
returns-then-not-fits c =
    let q = c.args in
    tables_refused q.kinds.now q.literals.now q.universal_rows.now q.universal_marks.now q.universal_counts.now q.existential_rows.now
    q.existential_marks.now q.existential_counts.now q.work.now q.limit
    c.in_ok-formula.formula (sym c.check.ensures.value ∙ c.in_ok-formula.was)
    (sym c.fits.ensures ∙ c.if-not-fits.true)

pub returns-then-not-counted : goal.returns-then-not-counted
returns-then-not-counted c =
    let q = c.args in
    counts_refused q.kinds.now q.literals.now q.universal_rows.now q.universal_marks.now q.universal_counts.now q.existential_rows.now
    q.existential_marks.now q.existential_counts.now q.work.now q.limit
    c.in_ok-formula.formula (sym c.check.ensures.value ∙ c.in_ok-formula.was)
    (sym c.fits.ensures ∙ c.if-not-fits.false) (sym c.counted.ensures ∙ c.if-not-counted.true)

pub returns-then-work-ne-WORK : goal.returns-then-work-ne-WORK
returns-then-work-ne-WORK c =
    let q = c.args in
    work_refused q.kinds.now q.literals.now q.universal_rows.now q.universal_marks.now q.universal_counts.now q.existential_rows.now
    q.existential_marks.now q.existential_counts.now q.work.now q.limit
    c.in_ok-formula.formula (sym c.check.ensures.value ∙ c.in_ok-formula.was)
    (sym c.fits.ensures ∙ c.if-not-fits.false) (sym c.counted.ensures ∙ c.if-not-counted.false) c.if-work-ne-WORK.true

pub returns-then-limit-eq0 : goal.returns-then-limit-eq0
returns-then-limit-eq0 c =
    let q = c.args in
    limit_refused q.kinds.now q.literals.now q.universal_rows.now q.universal_marks.now q.universal_counts.now q.existential_rows.now
    q.existential_marks.now q.existential_counts.now q.work.now q.limit
    c.in_ok-formula.formula (sym c.check.ensures.value ∙ c.in_ok-formula.was)
    (sym c.fits.ensures ∙ c.if-not-fits.false) (sym c.counted.ensures ∙ c.if-not-counted.false) c.if-work-ne-WORK.false c.if-limit-eq0.true

pub returns : goal.returns
returns c =
    let q = c.args in
    none_applies q.kinds.now q.literals.now q.universal_rows.now q.universal_marks.now q.universal_counts.now q.existential_rows.now
    q.existential_marks.now q.existential_counts.now q.work.now q.limit
    c.in_ok-formula.formula (sym c.check.ensures.value ∙ c.in_ok-formula.was)
    (sym c.fits.ensures ∙ c.if-not-fits.false) (sym c.counted.ensures ∙ c.if-not-counted.false) c.if-work-ne-WORK.false c.if-limit-eq0.false
