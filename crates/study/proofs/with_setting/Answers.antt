-- `study::with_setting` meets its contract. Assumes nothing.
use native.Mathlib.Omega.{arith}
use Rattle.engine.specs.Outcome.{areas}
use Rattle.study.proofs.TurnLaws.{setting_run, lent_bytes, few_bytes}
use Rattle.study.proofs.with_setting.Goals as goal

pub chosen-formula-requires : goal.chosen-formula-requires
chosen-formula-requires c = c.requires.inside

pub slice_bounds-run-end : goal.slice_bounds-run-end
slice_bounds-run-end c = omega (arith, c.lent_of-lent.ensures, few_bytes c.args.setting.preference)

pub returns : goal.returns
returns c =
    let q = c.args in
    setting_run q.kinds.now q.literals.now q.setting (areas q.universal_rows.now q.universal_marks.now q.universal_counts.now q.existential_rows.now q.existential_marks.now q.existential_counts.now q.work.now) c.run.result _ _ _ q.table.now q.entries
    (lent_bytes q.setting.preference c.byte_of.result c.lent_of-lent.result c.byte_of.ensures.lent c.lent_of-lent.ensures) c.requires c.chosen-formula.ensures c.run.ensures
