-- `search_sets::unite_at` meets its contract. Assumes nothing.
use Rattle.search_sets.specs.Sets.{set_joined}
use Rattle.search_sets.proofs.unite_at.Goals as goal

pub returns : goal.returns
unfolding set_joined
returns c = c.join.ensures
