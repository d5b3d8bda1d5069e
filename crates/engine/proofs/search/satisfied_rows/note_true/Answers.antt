-- `note_true` meets its contract. Assumes nothing.
use mathlib.Core.Path.{refl}
use native.Mathlib.Omega.{arith}
use Rattle.search_sets.proofs.MaskLaws.{store_behind}
use Rattle.engine.proofs.search.satisfied_rows.note_true.Goals as goal

pub returns-else-k-lt-UNKNOWNS : goal.returns-else-k-lt-UNKNOWNS
returns-else-k-lt-UNKNOWNS c = record { same = λ p lt l. refl }

pub true_code-requires : goal.true_code-requires
true_code-requires c = c.if-k-lt-UNKNOWNS.true

pub returns : goal.returns
returns c = store_behind _ _ _ (omega arith)
