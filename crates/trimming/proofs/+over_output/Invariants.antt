-- The measure of `over_output`, which calls itself: the length of the output. Assumes nothing.
use Rattle.std.proofs.Common.{length}
use Rattle.trimming.proofs.+over_output.Given as goal

abbrev pub decreases-over_output : goal.decreases-over_output
decreases-over_output l = length l.output.now
