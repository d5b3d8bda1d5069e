-- `check` meets its contract. Assumes nothing.
use mathlib.Core.Path.{refl, ◌∙◌}
use Rattle.engine.proofs.search.SatisfiedRows.{rows_live, checked_after}
use Rattle.engine.proofs.search.satisfied_rows.check.Goals as goal

pub returns-else-sizes_fit : goal.returns-else-sizes_fit
returns-else-sizes_fit c = rows_live _ _ _ _ _ _ _ _ (record { same = λ p lt l. refl })

pub note_true-met-requires : goal.note_true-met-requires
note_true-met-requires c = (c.sizes_fit.ensures c.if-sizes_fit.true).0

pub check_rows-requires : goal.check_rows-requires
check_rows-requires c =
    let if1 = c.if-sizes_fit in
    let sizes_fit_call = c.sizes_fit in (
      c.note_true-met.auto.sets ∙ (sizes_fit_call.ensures if1.true).0,
      (sizes_fit_call.ensures if1.true).1,
      (sizes_fit_call.ensures if1.true).2,
    )

pub returns : goal.returns
returns c = checked_after _ _ _ _ _ _ _ _ _ c.note_true-met.ensures c.check_rows.ensures
