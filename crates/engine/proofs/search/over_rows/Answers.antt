use mathlib.Core.Path.{sym, ◌∙◌}
use Rattle.cause.specs.declared.Cause.TheVariants.{Rows, Work, Count, StrayBit}
use Rattle.engine.proofs.search.OutcomeLaws.{cause_table, cause_area, cause_count, cause_stray, no_cause, fits_few, answered_refused, answered_found}
use Rattle.engine.proofs.search.OutcomeLaws.{answered_none}
use Rattle.engine.proofs.search.over_rows.Goals as goal

pub returns-then-not-table_fits : goal.returns-then-not-table_fits
returns-then-not-table_fits c =
    let given = c.args in
    answered_refused given.kinds.now given.codes.now given.index.now given.terms.now given.preferences.now given.own.now given.known
    given.rows.now given.count given.others given.side given.work.now Rows (cause_table given.rows.now given.count given.others
    given.work.now (sym c.table_fits.ensures ∙ c.if-not-table_fits.true))

pub returns-then-work-ne-WORK : goal.returns-then-work-ne-WORK
returns-then-work-ne-WORK c =
    let given = c.args in
    answered_refused given.kinds.now given.codes.now given.index.now given.terms.now given.preferences.now given.own.now given.known
    given.rows.now given.count given.others given.side given.work.now Work (cause_area given.rows.now given.count given.others
    given.work.now (sym c.table_fits.ensures ∙ c.if-not-table_fits.false) c.if-work-ne-WORK.true)

pub returns-then-rows-count : goal.returns-then-rows-count
returns-then-rows-count c =
    let given = c.args in
    answered_refused given.kinds.now given.codes.now given.index.now given.terms.now given.preferences.now given.own.now given.known
    given.rows.now given.count given.others given.side given.work.now Count (cause_count given.rows.now given.count given.others
    given.work.now (sym c.table_fits.ensures ∙ c.if-not-table_fits.false) c.if-work-ne-WORK.false c.if-rows-count.true)

pub returns-then-stray_bit : goal.returns-then-stray_bit
returns-then-stray_bit c =
    let given = c.args in
    answered_refused given.kinds.now given.codes.now given.index.now given.terms.now given.preferences.now given.own.now given.known
    given.rows.now given.count given.others given.side given.work.now StrayBit (cause_stray given.rows.now given.count given.others
    given.work.now (sym c.table_fits.ensures ∙ c.if-not-table_fits.false)
    c.if-work-ne-WORK.false c.if-rows-count.false (sym c.stray_bit.ensures ∙ c.if-stray_bit.true))

pub find-requires : goal.find-requires
find-requires c =
    let pre = c.requires in
    record {
      tables = pre.tables;
      inside = c.if-rows-count.false;
      few = fits_few
          c.args.rows.now
          (sym c.table_fits.ensures ∙ c.if-not-table_fits.false);
      others_known = pre.others_known;
      side_fits = pre.side_fits;
      area = c.if-work-ne-WORK.false;
    }

pub returns-then-find : goal.returns-then-find
returns-then-find c =
    let given = c.args in
    answered_found given.kinds.now given.codes.now given.index.now given.terms.now given.preferences.now given.own.now given.known
    given.rows.now given.count given.others given.side given.work.now _ _ (no_cause given.rows.now given.count given.others
    given.work.now (sym c.table_fits.ensures ∙ c.if-not-table_fits.false)
    c.if-work-ne-WORK.false c.if-rows-count.false
    (sym c.stray_bit.ensures ∙ c.if-stray_bit.false))
    c.find.ensures c.if-find.true

pub returns-else-find : goal.returns-else-find
returns-else-find c =
    let given = c.args in
    answered_none given.kinds.now given.codes.now given.index.now given.terms.now given.preferences.now given.own.now given.known
    given.rows.now given.count given.others given.side given.work.now _ _ (no_cause given.rows.now given.count given.others
    given.work.now (sym c.table_fits.ensures ∙ c.if-not-table_fits.false)
    c.if-work-ne-WORK.false c.if-rows-count.false
    (sym c.stray_bit.ensures ∙ c.if-stray_bit.false))
    c.find.ensures c.if-find.false
