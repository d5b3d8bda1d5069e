-- `reply::copy_behind` meets its contract. The loop's invariant: the bits passed are copied.
-- Assumes nothing.
use Rattle.rows.specs.Row.{bit_of}
use Rattle.rows.specs.Table.{row_at}
use Rattle.reply.specs.Private.Fitting.{Copied}
use Rattle.reply.proofs.copy_behind.Given as goal

abbrev pub invariant-loop-k : goal.invariant-loop-k
invariant-loop-k l = Copied (bit_of (row_at l.rows l.i)) l.from l.k l.initial.table l.to l.table
