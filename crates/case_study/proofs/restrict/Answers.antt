-- `case_study::restrict` meets its contract. Assumes nothing.
use mathlib.Core.Path.{ap, ◌∙◌}
use Rattle.restriction.specs.Outcome.{used}
use Rattle.case_study.proofs.LaidLaws.{entries_set, set_laid}
use Rattle.case_study.proofs.restrict.Goals as goal

pub returns : goal.returns
returns c =
    let on_entries = c.unwrap_or.ensures ∙ entries_set c.set_first.result ∙ ap used c.set_first.ensures.value in
    set_laid c.args.kinds.now c.args.literals.now c.requires.0 c.args.output.now c.requires.1 c.args.values.now c.requires.2 _ _ on_entries c.set_first.ensures.output_after
