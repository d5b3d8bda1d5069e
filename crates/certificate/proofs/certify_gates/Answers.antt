-- The shared function, told the form of the text. Assumes nothing.
use Rattle.text.specs.Offered.{offered}
use Rattle.text.specs.Reading.{read_gates}
use Rattle.certificate.proofs.CertificateRight.{gates_certificate_right}
use Rattle.certificate.proofs.certify_gates.Goals as goal

pub returns : goal.returns
unfolding read_gates
returns c = record {
  delivered = c.certify_as.ensures.delivered;
  left = c.certify_as.ensures.work_after;
  proved = gates_certificate_right (offered c.args.input.now c.args.length);
}
