-- The shared function, told the form of the text. Assumes nothing.
use Rattle.text.specs.Offered.{offered}
use Rattle.text.specs.Reading.{read}
use Rattle.certificate.proofs.CertificateRight.{certificate_right}
use Rattle.certificate.proofs.certify_offered.Goals as goal

pub returns : goal.returns
unfolding read
returns c = record {
  delivered = c.certify_as.ensures.delivered;
  left = c.certify_as.ensures.work_after;
  proved = certificate_right (offered c.args.input.now c.args.length);
}
