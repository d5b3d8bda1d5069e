-- `fee::sum` meets its contract. The loop's invariant: `total` and what the bands from place i on add up to are what all do.
-- Assumes nothing.
use native.Mathlib.Omega.{arith}
use mathlib.Core.Path.{refl}
use Rattle.fee.proofs.SumLaws.{band_at, band_small}
use Rattle.fee.proofs.sum.Goals as goal

pub loop-i-preserved : goal.loop-i-preserved
loop-i-preserved c =
    let i = c.loop-i.i in
    let here = c.rounds_from-here in
    let next = c.rounds_from-next in
    let own = c.saturating_sub in
    let small = band_small next.result own.ensures here.ensures.1 refl (c.requires.cheap i) in
    let band = band_at c.args.rounds c.args.firsts.now i c.args.prices.now (omega arith) (omega (arith, c.requires.even)) here.ensures.0 next.ensures.0
    own.ensures refl in
    (omega (arith, band), omega (arith, small))
