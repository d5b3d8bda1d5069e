-- `decided` meets its contract, from what the study promises. Assumes nothing.
use Rattle.study_certificate.proofs.DeliveryLaws.{few_unknowns, ready_so, work_so, formula_delivered}
use Rattle.study_certificate.proofs.decided.Goals as goal

pub deliver-requires : goal.deliver-requires
deliver-requires c = (ready_so c.args.kinds.now c.args.literals.now c.args.work.now c.requires.0 c.requires.1 c.study-end.ensures, few_unknowns c.args.kinds.now c.args.literals.now c.args.work.now c.requires.0 c.requires.1, c.requires.2)

pub returns : goal.returns
returns c = record {
  delivered = formula_delivered c.args.kinds.now c.args.literals.now c.args.work.now c.requires.0 c.requires.1 c.study-end.ensures c.args.variables c.args.clauses c.args.file.now c.args.lines.now c.deliver.ensures;
  work_after = work_so c.args.kinds.now c.args.literals.now c.args.work.now c.requires.0 c.requires.1 c.study-end.ensures;
}
