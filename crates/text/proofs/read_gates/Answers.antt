-- The reader, told the form of the text. Assumes nothing.
use lib.ListN.{length}
use Rattle.text.specs.Reading.{read_gates}
use Rattle.text.proofs.GatesRight.{gates_right}
use Rattle.text.proofs.CausesRight.{gates_causes_right}
use Rattle.text.proofs.read_gates.Goals as goal

pub returns : goal.returns
unfolding read_gates
returns c =
    let given = c.args in
    let text = given.text.now in
    let done = c.read_as.ensures.written in
    let causes = gates_causes_right text (length given.kinds.now) (length given.literals.now) (length given.names.now) done.returns in record {
      written = done;
      proved = gates_right text;
      causes = causes;
    }
