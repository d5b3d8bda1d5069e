-- `take_in` meets its contract. Assumes nothing.
use Rattle.engine.proofs.search.SatisfiedRows.{takes_set}
use Rattle.engine.proofs.search.satisfied_rows.take_in.Goals as goal

pub returns : goal.returns
returns c = takes_set _ _ c.requires.0 c.requires.1 c.unite.ensures
