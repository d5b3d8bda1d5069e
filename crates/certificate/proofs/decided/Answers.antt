-- `certificate::decided` meets its contract, from what the run promises. Assumes nothing.
use Rattle.certificate.proofs.CertificateLaws.{few_unknowns, ran, work_so}
use Rattle.certificate.proofs.decided.Goals as goal

pub deliver-requires : goal.deliver-requires
deliver-requires c = (ran c.args.kinds.now c.args.literals.now c.args.work.now c.requires.0 c.requires.1 c.decide_rows-end.ensures, few_unknowns c.args.kinds.now c.args.literals.now c.args.work.now c.requires.0 c.requires.1, c.requires.2)

pub returns : goal.returns
returns c = record {
  delivered = c.deliver.ensures;
  work_after = work_so c.args.kinds.now c.args.literals.now c.args.work.now c.requires.0 c.requires.1 c.decide_rows-end.ensures;
}
