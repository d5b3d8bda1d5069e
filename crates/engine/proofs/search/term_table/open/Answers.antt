-- `open` meets its contract. Assumes nothing.
use Rattle.engine.proofs.search.OpenLaws.{opened_all}
use Rattle.engine.proofs.search.term_table.open.Goals as goal

pub returns : goal.returns
returns c = λ fit coded listed. opened_all fit.3 listed (c.fill-2.ensures coded) c.name.ensures
