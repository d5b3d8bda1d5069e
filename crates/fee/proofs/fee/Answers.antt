-- `fee::fee` meets its contract. Assumes nothing.
use mathlib.Core.Path.{◌∙◌}
use Rattle.fee.proofs.LoadLaws.{summable}
use Rattle.fee.proofs.BandsRight.{built_in_loads, built_in_sum}
use Rattle.fee.proofs.AnswerLaws.{charged_so}
use Rattle.fee.proofs.FeesRight.{fees_right}
use Rattle.fee.proofs.fee.Goals as goal

pub sum-requires : goal.sum-requires
sum-requires c = summable built_in_loads

pub returns : goal.returns
returns c =
    let given = c.args in
    let summed = c.sum.ensures ∙ built_in_sum given.rounds in record {
      charged = charged_so given.kinds.now given.rounds c.sum.result summed c.fee_on.ensures;
      proved = fees_right;
    }
