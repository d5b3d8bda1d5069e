-- `search_sets::has_at` meets its contract. Assumes nothing.
use mathlib.Core.Path.{refl}
use Rattle.search_sets.specs.Sets.{bit_at}
use Rattle.search_sets.proofs.has_at.Goals as goal

pub returns : goal.returns
unfolding bit_at
returns c = refl
