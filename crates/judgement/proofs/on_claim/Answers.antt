-- `judgement::on_claim` meets its contract, in each case of what the judge returned. Assumes nothing.
use mathlib.Core.Path.{ap, ◌∙◌}
use Rattle.std.specs.Prelude.{Ok, Err}
use Rattle.judgement.proofs.FindingLaws.{claim_found}
use Rattle.judge.specs.declared.Judgement.TheVariants as Judgement
use Rattle.judgement.proofs.on_claim.Goals as goal

pub returns-in-Ok-NotBorneOut : goal.returns-in-Ok-NotBorneOut
returns-in-Ok-NotBorneOut c =
    let given = c.args in
    claim_found given.kinds.now given.literals.now given.file.now given.work.now given.claim (Ok Judgement.NotBorneOut)
    c.rows-rows.ensures.result_value (c.in-Ok-NotBorneOut.is ∙ ap Ok c.in-Ok-NotBorneOut.field-0-is) c.judge.ensures

pub returns-in-Ok-Accepted : goal.returns-in-Ok-Accepted
returns-in-Ok-Accepted c =
    let given = c.args in
    claim_found given.kinds.now given.literals.now given.file.now given.work.now given.claim (Ok Judgement.Accepted)
    c.rows-rows.ensures.result_value (c.in-Ok-Accepted.is ∙ ap Ok c.in-Ok-Accepted.field-0-is) c.judge.ensures

pub returns-in-Err : goal.returns-in-Err
returns-in-Err c =
    let given = c.args in
    let found = claim_found given.kinds.now given.literals.now given.file.now given.work.now given.claim (Err c.in-Err.cause) c.rows-rows.ensures.result_value
    c.in-Err.is c.judge.ensures in
    rw (c.number.ensures) found
