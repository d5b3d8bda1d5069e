-- `search_sets::join` meets its contract. Assumes nothing.
use Rattle.search_sets.specs.Sets.{words_joined}
use Rattle.search_sets.proofs.join.Goals as goal

pub returns : goal.returns
unfolding words_joined
returns c = c.put.ensures
