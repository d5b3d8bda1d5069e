-- `satisfied_by_terms` meets its contract. Assumes nothing.
use Rattle.engine.proofs.search.SatisfiedRows.{empties}
use Rattle.engine.proofs.search.TermLaws.{row_told, row_read}
use Rattle.engine.proofs.search.satisfied_rows.satisfied_by_terms.Goals as goal

pub returns-then-terms_met : goal.returns-then-terms_met
returns-then-terms_met c = row_told _ _ _ _ _ _ _ _ (empties _ c.requires.0 c.empty.ensures)
    c.terms_met.ensures c.if-terms_met.true

pub returns : goal.returns
returns c = row_read _ _ _ _ _ _ _ _ _ (empties _ c.requires.0
    c.empty.ensures) c.terms_met.ensures
    c.satisfied_by_clauses.ensures
