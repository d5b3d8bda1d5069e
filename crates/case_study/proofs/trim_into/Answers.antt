-- `case_study::trim_into` meets its contract. Assumes nothing.
use mathlib.Core.Path.{ap, ◌∙◌}
use Rattle.trimming.specs.Outcome.{used}
use Rattle.study.proofs.TurnLaws.{entries_used}
use Rattle.case_study.proofs.LaidLaws.{trim_laid}
use Rattle.case_study.proofs.trim_into.Goals as goal

pub returns : goal.returns
returns c =
    let on_entries = c.unwrap_or.ensures ∙ entries_used c.trim.result ∙ ap used c.trim.ensures.value in
    trim_laid c.args.kinds.now c.args.literals.now c.requires.0 c.args.output.now c.requires.1 _ _ on_entries c.trim.ensures.output_after
