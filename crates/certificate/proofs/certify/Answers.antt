-- The shared function, told the form of the text. Assumes nothing.
use mathlib.Core.Path.{ap, ◌∙◌}
use mathlib.Core.Bool.{false}
use lib.ListN.{length}
use Rattle.lines.specs.Lines.{Bytes}
use Rattle.text.specs.Reading.{read, read_as}
use Rattle.text.specs.Offered.{offered}
use Rattle.text.proofs.OfferedLaws.{offered_whole, of_whole}
use Rattle.certificate.specs.declared.Counts.{Counts}
use Rattle.certificate.specs.Certificate.{on_text, work_by, Delivered}
use Rattle.certificate.proofs.CertificateRight.{certificate_right}
use Rattle.certificate.proofs.certify.Goals as goal

-- A text that fills its buffer is the one that is offered.
whole_delivered : (text file lines work : Bytes) {r : Counts} {file' lines' : Bytes} → Delivered (on_text (read_as false (offered text (length text))) work) file lines r file' lines'
    → Delivered (on_text (read_as false text) work) file lines r file' lines'
whole_delivered text file lines work {r} {file'} {lines'} h = of_whole (λ (t : Bytes). Delivered (on_text (read_as false t) work) file lines r file' lines') text h

pub returns : goal.returns
unfolding read
returns c =
    let given = c.args in
    let text = given.text.now in
    let done = c.certify_as.ensures in record {
      delivered = whole_delivered text given.file.now given.lines.now given.work.now done.delivered;
      left = done.work_after ∙ ap (λ (t : Bytes). work_by (read_as false t) given.work.now) (offered_whole text);
      proved = certificate_right text;
    }
