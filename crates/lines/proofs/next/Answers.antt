-- The next word is what stands between the spaces at i and the first space behind them. Assumes nothing.
use Rattle.lines.proofs.Pieces.{next_word}
use Rattle.lines.proofs.next.Goals as goal

pub returns : goal.returns
returns c =
    let given = c.args in
    next_word given.line.now given.i c.skip-start.result c.find-end.result c.skip-start.ensures c.find-end.ensures
