-- `first_block::read` meets its contract. The loop's invariant: the positions before k are the side's, and their values are read. Assumes nothing.
use mathlib.Core.Path.{◌≡◌}
use lib.ListN.{length}
use Rattle.engine.proofs.search.FirstBlockLaws.{Read}
use Rattle.engine.proofs.search.first_block.read.Given as goal

abbrev pub invariant-loop-k : goal.invariant-loop-k
invariant-loop-k l = (length l.block ≡ length l.initial.block) × Read l.kinds l.own l.row l.side l.block l.k
