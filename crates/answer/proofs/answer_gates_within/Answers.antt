-- The shared function, told the form of the text. Assumes nothing.
use Rattle.text.specs.Reading.{read_gates}
use Rattle.text.specs.Offered.{offered}
use Rattle.answer.specs.Printed.{gates_printed, printed_as}
use Rattle.answer.proofs.GatesAnswerRight.{gates_answer_right}
use Rattle.answer.proofs.answer_gates_within.Goals as goal

pub returns : goal.returns
unfolding gates_printed printed_as read_gates
returns c =
    let given = c.args in record {
      puts = c.within_as.ensures;
      proved = gates_answer_right (offered given.area.now given.length);
    }
