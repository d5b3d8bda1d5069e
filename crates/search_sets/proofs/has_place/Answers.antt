-- `search_sets::has_place` meets its contract. Assumes nothing.
use mathlib.Core.Path.{sym, ap}
use mathlib.Core.Bool.{Bool, ◌&&◌}
use native.Mathlib.Omega.{arith}
use lib.Dec.{ltb}
use borrow.Author.Tests.{eq-eqb, ne_eqb}
use Rattle.search_sets.specs.Sets.{set_places, sets_size, has_place}
use Rattle.search_sets.proofs.has_place.Goals as goal

pub returns-then-size-eq-WORDS : goal.returns-then-size-eq-WORDS
unfolding has_place
returns-then-size-eq-WORDS c = ap (λ (t : Bool). t && ltb c.args.to set_places) (sym (eq-eqb c.args.size sets_size (omega arith)))

pub returns-else-size-eq-WORDS : goal.returns-else-size-eq-WORDS
unfolding has_place
returns-else-size-eq-WORDS c = ap (λ (t : Bool). t && ltb c.args.to set_places) (sym (ne_eqb c.args.size sets_size (λ e. omega arith)))
