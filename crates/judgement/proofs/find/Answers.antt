-- The shared function, told the form of the text. Assumes nothing.
use lib.ListN.{length}
use Rattle.lines.specs.Lines.{Bytes}
use Rattle.text.specs.Reading.{read}
use Rattle.text.specs.declared.Form.TheVariants.{Clauses}
use Rattle.text.specs.Form.{form_read}
use Rattle.text.specs.Offered.{offered}
use Rattle.text.proofs.OfferedLaws.{of_whole}
use Rattle.judgement.specs.declared.Finding.{Finding}
use Rattle.judgement.specs.Finding.{finding_of, left_of, on_text, Finds}
use Rattle.judgement.proofs.JudgementRight.{finding_right}
use Rattle.judgement.proofs.find.Goals as goal

-- A text that fills its buffer is the one that is offered.
whole_found : (text file work : Bytes) {r : Finding} {after : Bytes} → Finds (on_text (form_read Clauses (offered text (length text))) file) work r after
    → Finds (on_text (form_read Clauses text) file) work r after
whole_found text file work {r} {after} h = of_whole (λ (t : Bytes). Finds (on_text (form_read Clauses t) file) work r after) text h

pub returns : goal.returns
unfolding read finding_of left_of
returns c =
    let given = c.args in
    let text = given.text.now in
    let found = whole_found text given.file.now given.work.now c.find_as.ensures in record {
      found = found.found;
      left = found.area;
      proved = finding_right text given.file.now given.work.now;
    }
