-- `certify_gates` hands on what `certify_as` promises. Assumes nothing.
use Rattle.study_certificate.proofs.certify_gates.Goals as goal

pub returns : goal.returns
returns c = record {
  delivered = c.certify_as.ensures.delivered;
  left = c.certify_as.ensures.work_after;
  proved = c.certify_as.ensures.study_certificate_right;
}
