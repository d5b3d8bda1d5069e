-- The shared function, told the form of the text. Assumes nothing.
use Rattle.text.specs.Reading.{read}
use Rattle.text.specs.Offered.{offered}
use Rattle.answer.specs.Printed.{printed, printed_as}
use Rattle.answer.proofs.AnswerRight.{answer_right}
use Rattle.answer.proofs.answer_within.Goals as goal

pub returns : goal.returns
unfolding printed printed_as read
returns c =
    let given = c.args in record {
      puts = c.within_as.ensures;
      proved = answer_right (offered given.area.now given.length);
    }
