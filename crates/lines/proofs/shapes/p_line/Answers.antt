-- The words of the p line are tested one by one. Assumes nothing.
use mathlib.Core.Path.{ap, ◌∙◌}
use Rattle.lines.specs.Lines.{words, first, second, same}
use Rattle.lines.specs.Numbers.{number, unsigned, negative}
use Rattle.lines.specs.Shapes.{is_problem, ends_problem, is_trimmed, p_word, form_word}
use Rattle.lines.proofs.ShapeLaws.{taken_word, whole_problem}
use Rattle.lines.proofs.shapes.p_line.Goals as goal

pub returns : goal.returns
unfolding is_problem
returns c =
    let opens_call = c.opens-opening in
    let given = c.args in
    let q2 = taken_word c.next-v.ensures opens_call.ensures.others in
    let q3 = taken_word c.next-c.ensures q2.1 in
    let q4 = taken_word c.next-o.ensures q3.1 in
    let v' = c.number-variables.ensures ∙ ap number q2.0 in
    let c' = c.number-clauses.ensures ∙ ap number q3.0 in
    let line = given.line.now in
    let gates = given.gates in
    record {
      shape = c.is_whole.ensures ∙ whole_problem (is_trimmed line) (same (first (words line)) p_word) (same (second (words line)) (form_word gates))
          opens_call.ensures.right (c.ends.ensures ∙ ap (ends_problem given.gates) q3.1) v' c';
      v = v';
      c = c';
      o = c.magnitude-output.ensures ∙ ap (λ w. number (unsigned w)) q4.0;
      sign = c.negative-negative.ensures ∙ ap negative q4.0;
    }
