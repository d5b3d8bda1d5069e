-- `counts::is_yielded` meets its contract. Assumes nothing.
use Rattle.std.proofs.Common.{rules}
use Rattle.counts.specs.Counts.{was_yielded}
use Rattle.counts.proofs.is_yielded.Goals as goal

pub returns : goal.returns
unfolding was_yielded
returns c = search rules
