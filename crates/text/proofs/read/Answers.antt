-- The reader, told the form of the text. Assumes nothing.
use lib.ListN.{length}
use Rattle.text.specs.Reading.{read}
use Rattle.text.proofs.ClosedRight.{closed_right}
use Rattle.text.proofs.CausesRight.{text_causes_right}
use Rattle.text.proofs.read.Goals as goal

pub returns : goal.returns
unfolding read
returns c =
    let given = c.args in
    let text = given.text.now in
    let done = c.read_as.ensures.written in
    let causes = text_causes_right text (length given.kinds.now) (length given.literals.now) (length given.names.now) done.returns in record {
      written = done;
      proved = closed_right text;
      causes = causes;
    }
