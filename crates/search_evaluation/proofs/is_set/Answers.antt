-- `search_evaluation::is_set` meets its contract. Assumes nothing.
use Rattle.search_evaluation.proofs.CellReads.{set_by}
use Rattle.search_evaluation.proofs.is_set.Goals as goal

pub returns : goal.returns
returns c =
    let given = c.args in
    set_by given.work.now given.i given.c c.position.result c.requires.1 c.position.ensures
