-- `finds_false` meets its contract. Assumes nothing.
use mathlib.Core.Path.{refl}
use native.Mathlib.Omega.{arith}
use Rattle.engine.proofs.search.SatisfiedRows.{false_found, false_unknown}
use Rattle.search_sets.proofs.MaskLaws.{store_behind}
use Rattle.engine.proofs.search.satisfied_rows.finds_false.Goals as goal

pub returns-else-sizes_fit : goal.returns-else-sizes_fit
returns-else-sizes_fit c = false_unknown _ _ _ _

pub returns-else-i-lt-ROWS : goal.returns-else-i-lt-ROWS
returns-else-i-lt-ROWS c = false_unknown _ _ _ _

pub watched-requires : goal.watched-requires
watched-requires c = ((c.sizes_fit.ensures c.if-sizes_fit.true).0, c.if-i-lt-ROWS.true)

pub returns-then-is_false : goal.returns-then-is_false
returns-then-is_false c = false_found _ _ _ _ _ _ (record { same = λ p lt l. refl }) (c.is_false.ensures c.if-is_false.true)

pub likely-start-requires : goal.likely-start-requires
likely-start-requires c =
    let if1 = c.if-sizes_fit in
    let sizes_fit_call = c.sizes_fit in
    ((sizes_fit_call.ensures if1.true).0, (sizes_fit_call.ensures if1.true).1, c.if-i-lt-ROWS.true)

pub bounds-sets-i : goal.bounds-sets-i
bounds-sets-i c =
    let size = (c.sizes_fit.ensures c.if-sizes_fit.true).0 in
    omega (arith, c.if-i-lt-ROWS.true)

pub returns-then-is_false-2 : goal.returns-then-is_false-2
returns-then-is_false-2 c = false_found _ _ _ _ _ _ (store_behind _ _ _ (omega arith)) (c.is_false-2.ensures c.if-is_false-2.true)

pub returns : goal.returns
returns c = false_unknown _ _ _ _
