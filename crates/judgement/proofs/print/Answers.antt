-- `judgement::print` meets its contract: the line of what is found. Assumes nothing.
use Rattle.text.specs.Offered.{offered}
use Rattle.text.specs.Form.{form_read}
use Rattle.judgement.proofs.FindingLaws.{printed_so, put_as}
use Rattle.judgement.proofs.JudgementRight.{judgement_right}
use Rattle.judgement.proofs.print.Goals as goal

pub returns : goal.returns
returns c =
    let put_call = c.put_line in
    let given = c.args in
    let text = offered given.input.now given.length in
    let line = printed_so (form_read given.form text) given.file.now c.find_as-finding.ensures in
    let put = put_as given.out.now line put_call.ensures.value put_call.ensures.out_after in record {
      counted = put.0;
      written = put.1;
      proved = judgement_right given.form text given.file.now;
    }
