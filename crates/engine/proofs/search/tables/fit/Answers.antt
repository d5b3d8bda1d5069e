-- `tables::fit` meets its contract. Assumes nothing.
use mathlib.Core.Path.{sym, ap, ◌∙◌}
use mathlib.Core.Bool.{not}
use Rattle.engine.proofs.search.PreparedLaws.{fit_long, fit_other_size, fit_tested}
use Rattle.engine.proofs.search.tables.fit.Goals as goal

pub returns-then-codes-gt-ENTRIES : goal.returns-then-codes-gt-ENTRIES
returns-then-codes-gt-ENTRIES c = fit_long c.args.codes.now c.args.places c.if-codes-gt-ENTRIES.true

pub returns-then-places-ne-SIZE : goal.returns-then-places-ne-SIZE
returns-then-places-ne-SIZE c =
    let given = c.args in
    fit_other_size given.codes.now given.places c.if-places-ne-SIZE.true

pub returns-then-has_other : goal.returns-then-has_other
returns-then-has_other c =
    let given = c.args in
    sym (ap not c.if-has_other.true) ∙ fit_tested given.codes.now given.places c.if-codes-gt-ENTRIES.false c.if-places-ne-SIZE.false
    c.has_other.result c.has_other.ensures

pub returns : goal.returns
returns c =
    let given = c.args in
    sym (ap not c.if-has_other.false) ∙ fit_tested given.codes.now given.places c.if-codes-gt-ENTRIES.false c.if-places-ne-SIZE.false
    c.has_other.result c.has_other.ensures
