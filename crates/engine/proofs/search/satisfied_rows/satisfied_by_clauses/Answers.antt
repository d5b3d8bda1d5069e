-- `satisfied_by_clauses` meets its contract. Assumes nothing.
use Rattle.engine.proofs.search.SatisfiedRows.{empties, row_reasons_added}
use Rattle.engine.proofs.search.satisfied_rows.satisfied_by_clauses.Goals as goal

pub returns : goal.returns
returns c = row_reasons_added _ _ _ _ _ _ _ (empties _ c.requires c.empty.ensures)
    c.add_reasons.ensures
