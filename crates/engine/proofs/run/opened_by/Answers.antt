-- `run::opened_by` meets its contract. Assumes nothing.
use Rattle.engine.proofs.run.OpeningLaws.{opened_read}
use Rattle.engine.proofs.run.opened_by.Goals as goal

pub returns : goal.returns
returns c =
    let q = c.args in
    opened_read q.end q.kinds.now q.kind q.rows.now q.count _ _ _ c.block-block.ensures c.last_place-place.ensures
    c.first_bits-opening.ensures
