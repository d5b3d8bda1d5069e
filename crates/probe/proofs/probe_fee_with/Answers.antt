-- `probe::probe_fee_with` meets its contract. Assumes nothing.
use mathlib.Core.Path.{ap, ◌∙◌}
use Rattle.fee.specs.Fee.{cents}
use Rattle.probe.specs.Numbers.{charge_number}
use Rattle.probe.proofs.probe_fee_with.Goals as goal

pub returns : goal.returns
returns c =
    let told = c.fee_with-charge.ensures.charged_with.value in record {
      value = c.charge_number.ensures ∙ ap charge_number told;
      cents_after = c.charge_cents.ensures ∙ ap cents told;
    }
