-- `judgement::on_formula` meets its contract, from what the file's reader returned. Assumes nothing.
use mathlib.Core.Path.{sym, ap, ◌∙◌}
use Rattle.witness.specs.File.{reading_number}
use Rattle.judgement.proofs.FindingLaws.{formula_read, formula_refused}
use Rattle.judgement.proofs.on_formula.Goals as goal

pub returns-in-Ok : goal.returns-in-Ok
returns-in-Ok c = formula_read c.args.kinds.now c.args.literals.now c.args.file.now c.args.work.now c.args.clauses c.in-Ok.«record»
    (sym c.read.ensures.value ∙ c.in-Ok.is) c.on_record.ensures

pub returns-in-Err : goal.returns-in-Err
returns-in-Err c =
    let given = c.args in
    let told = sym (ap reading_number c.in-Err.is) ∙ c.read.ensures.numbered in
    let found = formula_refused given.kinds.now given.literals.now given.file.now given.work.now given.clauses c.in-Err.cause
    (sym c.read.ensures.value ∙ c.in-Err.is) told in
    rw (c.number.ensures) found
