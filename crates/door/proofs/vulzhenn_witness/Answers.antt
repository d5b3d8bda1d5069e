-- `vulzhenn_witness` meets its contract, from what `certify` promises. Assumes nothing.
use Rattle.door.proofs.WitnessLaws.{file_certified}
use Rattle.door.proofs.vulzhenn_witness.Goals as goal

pub returns : goal.returns
returns c =
    let both = file_certified c.args.text.now c.args.out.now c.args.work.now (c.certify-counts.ensures.delivered, (c.certify-counts.ensures.left, c.certify-counts.ensures.proved)) in
    record { counted = both.0; written = both.1.0; left = both.1.1.0; right = both.1.1.1 }
