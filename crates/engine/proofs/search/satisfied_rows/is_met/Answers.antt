-- `is_met` meets its contract. Assumes nothing.
use Rattle.engine.proofs.search.TermLaws.{term_met, term_unmet, own_inside}
use Rattle.engine.proofs.search.satisfied_rows.is_met.Goals as goal

pub take_in-requires : goal.take_in-requires
take_in-requires c =
    let given = c.args in
    (c.requires, own_inside given.kinds.now given.codes.now given.work.now given.i given.start c.in-Some.best c.in-Some.ensures)

pub returns-in-Some : goal.returns-in-Some
returns-in-Some c =
    let given = c.args in
    term_met given.kinds.now given.codes.now given.work.now given.i given.start c.in-Some.best _ _ c.in-Some.ensures c.take_in.ensures

pub returns-in-None : goal.returns-in-None
returns-in-None c = term_unmet _ _ _ _ _ _
