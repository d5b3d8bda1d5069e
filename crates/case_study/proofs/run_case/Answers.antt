-- `case_study::run_case` meets its contract. Assumes nothing.
use native.Mathlib.Omega.{arith}
use Rattle.engine.specs.Outcome.{areas}
use Rattle.study.proofs.TurnLaws.{lent_bytes, few_bytes}
use Rattle.case_study.proofs.AskLaws.{ran}
use Rattle.case_study.proofs.run_case.Goals as goal

pub slice_bounds-run-end : goal.slice_bounds-run-end
slice_bounds-run-end c = omega (arith, c.lent_of-lent.ensures, few_bytes c.args.setting.preference)

pub returns : goal.returns
returns c = ran c.args.setting c.args.depth c.args.kinds.now c.args.literals.now (areas c.args.universal_rows.now c.args.universal_marks.now c.args.universal_counts.now c.args.existential_rows.now c.args.existential_marks.now c.args.existential_counts.now c.args.work.now) c.args.made _ c.run-outcome.result _ c.reply_of.result c.counted.result
    (lent_bytes c.args.setting.preference c.byte_of.result c.lent_of-lent.result c.byte_of.ensures.lent c.lent_of-lent.ensures) c.run-outcome.ensures c.reply_of.ensures c.counted.ensures
