-- `begin` meets its contract. Assumes nothing.
use Prim.Native.Nat.{◌-◌}
use borrow.Rule.Slice.PartMut.{same_len_mid}
use Rattle.engine.specs.Private.Satisfied.{open_at, holds_at, true_at}
use mathlib.Core.Path.{refl}
use native.Mathlib.Omega.{arith}
use Rattle.search_sets.proofs.MaskLaws.{kept_trans}
use Rattle.engine.proofs.search.SatisfiedRows.{part_kept}
use Rattle.engine.proofs.search.satisfied_rows.begin.Goals as goal

pub returns-else-sets-eq-WORDS : goal.returns-else-sets-eq-WORDS
returns-else-sets-eq-WORDS c = record { same = λ p lt l. refl }

pub returns : goal.returns
returns c =
    let by_row_call = c.by_row in
    let given = c.args in
    let row_part = by_row_call.new.words in
    let code_part = c.holds.new.words in
    kept_trans
    (part_kept given.sets.now row_part open_at (holds_at - open_at) (omega arith) (omega arith))
    (part_kept _ code_part holds_at (true_at - holds_at) (omega arith)
    (omega (arith, same_len_mid open_at (holds_at - open_at) given.sets.now row_part by_row_call.auto.words)))
