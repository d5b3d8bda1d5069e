-- `trimming::over_output`, which calls itself, meets its contract. Assumes nothing.
use lib.ListN.{length}
use Rattle.trimming_rules.specs.Trimming.{trimmed}
use Rattle.trimming.proofs.PartLaws.{part_put}
use Rattle.trimming.proofs.+over_output.Goals as goal

pub returns-then-entries-output-clause-output_after :
    goal.returns-then-entries-output-clause-output_after
returns-then-entries-output-clause-output_after t c =
    let given = c.args in
    let lent = c.over_output in
    part_put (length given.literals.now) lent.result given.output.now lent.new.output (trimmed given.kinds.now given.literals.now)
    c.if-entries-output.true lent.ensures.value lent.auto.output lent.ensures.output_after
