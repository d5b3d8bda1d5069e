-- What the tests of the numbers say. Assumes nothing.
use Prim.Native.Nat.{ℕ, ◌<◌}
use mathlib.Core.Path.{◌≡◌, refl, sym, ◌∙◌}
use mathlib.Core.Bool.{Bool, true, and-eq-true_iff}
use lib.Dec.{eqb, ltb}
use borrow.Author.Tests.{eqb-true, ltb-true, eq-eqb, lt-ltb}
use Rattle.search_sets.specs.Sets.{set_places, sets_size, has_place, numbers_fit}

-- A test that came out true.
pub place_there : (size to : ℕ) {r : Bool} → r ≡ has_place size to → r ≡ true → (size ≡ sets_size) × (to < set_places)
unfolding has_place
place_there size to e t =
    let both = (and-eq-true_iff (eqb size sets_size) (ltb to set_places)).0 (sym e ∙ t) in
    (eqb-true size sets_size both.0, ltb-true to set_places both.1)

pub numbers_within : (size to number bound : ℕ) {r : Bool} → r ≡ numbers_fit size to number bound → r ≡ true
    → (size ≡ sets_size) × (to < set_places) × (number < bound)
unfolding numbers_fit
numbers_within size to number bound e t =
    let both = (and-eq-true_iff (has_place size to) (ltb number bound)).0 (sym e ∙ t) in
    let there = place_there size to (sym both.0) refl in
    (there.0, there.1, ltb-true number bound both.1)

-- The other way round.
pub place_true : (size to : ℕ) → size ≡ sets_size → to < set_places → has_place size to ≡ true
unfolding has_place
place_true size to e below = (and-eq-true_iff (eqb size sets_size) (ltb to set_places)).1 (eq-eqb size sets_size e, lt-ltb to set_places below)

pub numbers_true : (size to number bound : ℕ) → size ≡ sets_size → to < set_places → number < bound → numbers_fit size to number bound ≡ true
unfolding numbers_fit
numbers_true size to number bound e below least =
    (and-eq-true_iff (has_place size to) (ltb number bound)).1 (place_true size to e below, lt-ltb number bound least)
