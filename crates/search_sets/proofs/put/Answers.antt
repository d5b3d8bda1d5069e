-- `search_sets::put` meets its contract. Assumes nothing.
use mathlib.Core.Path.{refl}
use Rattle.search_sets.specs.Sets.{words_put}
use Rattle.search_sets.proofs.put.Goals as goal

pub returns : goal.returns
unfolding words_put
returns c = refl
