-- A text that is longer than its buffer is refused; every other one is read as it stands there. Assumes nothing.
use lib.ListN.{length}
use Rattle.text.proofs.ReadingLaws.{refused_whole}
use Rattle.text.proofs.OfferedLaws.{past_stops, inside_read}
use Rattle.text.proofs.read_offered.Goals as goal

pub returns-then-buffer-count : goal.returns-then-buffer-count
returns-then-buffer-count c =
    let given = c.args in record { written = refused_whole (past_stops given.buffer.now given.count c.if-buffer-count.true given.gates (length given.kinds.now) (length given.literals.now) (length given.names.now)) }

pub returns : goal.returns
returns c =
    let given = c.args in record { written = inside_read given.buffer.now given.count c.if-buffer-count.false given.gates (length given.kinds.now) (length given.literals.now) (length given.names.now) c.read_as.ensures.written }
