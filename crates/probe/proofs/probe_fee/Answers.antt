-- `probe::probe_fee` meets its contract. Assumes nothing.
use mathlib.Core.Path.{ap, ◌∙◌}
use Rattle.fee.specs.Fee.{cents}
use Rattle.probe.specs.Numbers.{charge_number}
use Rattle.probe.proofs.probe_fee.Goals as goal

pub returns : goal.returns
returns c =
    let told = c.fee-charge.ensures.charged.value in record {
      value = c.charge_number.ensures ∙ ap charge_number told;
      cents_after = c.charge_cents.ensures ∙ ap cents told;
    }
