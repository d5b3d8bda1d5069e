-- `unite` meets its contract. Assumes nothing.
use Rattle.engine.proofs.search.RowLaws.{joined_stored}
use native.Mathlib.Omega.{arith}
use Rattle.engine.proofs.search.term_table.unite.Goals as goal

pub returns : goal.returns
returns c = joined_stored c.args.opened.now _ c.args.rows (omega arith)
