-- `certificate::refuse` meets its contract. Assumes nothing.
use Rattle.report.specs.Report.{refusal_line}
use Rattle.certificate.proofs.CertificateLaws.{lines_delivered}
use Rattle.certificate.proofs.refuse.Goals as goal

pub returns : goal.returns
returns c = lines_delivered (refusal_line c.args.number c.args.line) c.args.file.now c.args.lines.now c.refusal-count.ensures.value c.refusal-count.ensures.out_after
