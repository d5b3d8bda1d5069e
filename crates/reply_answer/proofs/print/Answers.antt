-- `reply_answer::print` meets its contract. Assumes nothing.
use mathlib.Core.Path.{ap}
use Rattle.judgement.proofs.FindingLaws.{put_as}
use Rattle.reply_answer.specs.Answer.{line_of}
use Rattle.reply_answer.proofs.print.Goals as goal

pub returns : goal.returns
returns c =
    let put_line_call = c.put_line in
    let find_call = c.find-answer in
    let given = c.args in
    let both = put_as given.out.now (ap line_of find_call.ensures) put_line_call.ensures.value put_line_call.ensures.out_after in
    record { counted = both.0; written = both.1 }
