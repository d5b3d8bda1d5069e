-- `search_sets::meet` meets its contract. Assumes nothing.
use Rattle.search_sets.specs.Sets.{words_met}
use Rattle.search_sets.proofs.meet.Goals as goal

pub returns : goal.returns
unfolding words_met
returns c = c.put.ensures
