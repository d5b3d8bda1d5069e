-- `writer::put_blocks` meets its contract. The loop's invariant: the unknowns that were not yet passed are left. Assumes nothing.
use lib.ListN.{length, drop}
use Rattle.writer.proofs.PutLaws.{Left}
use Rattle.writing.specs.Writing.{blocks}
use Rattle.writer.proofs.put_blocks.Given as goal

abbrev pub invariant-loop-kind : goal.invariant-loop-kind
invariant-loop-kind l =
    Left (blocks l.first l.kinds l.names) l.at l.initial.text (blocks l.before (drop (length l.yielded) l.kinds) (drop (length l.yielded) l.names)) l.end l.text
