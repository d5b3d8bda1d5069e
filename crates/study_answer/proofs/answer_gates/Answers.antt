-- `answer_gates` meets its contract: it hands on what `answer_as` promises. Assumes nothing.
use Rattle.study_answer.proofs.answer_gates.Goals as goal

pub returns : goal.returns
returns c = record {
  counted = c.answer_as.ensures.value;
  written = c.answer_as.ensures.out_after;
  proved = c.answer_as.ensures.study_answer_right;
}
