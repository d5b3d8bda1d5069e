-- `fee::risen` meets its contract. Assumes nothing.
use native.Mathlib.Omega.{arith}
use Rattle.fee.proofs.SumLaws.{risen_fits}
use mathlib.Core.Path.{refl}
use Rattle.fee.proofs.risen.Goals as goal

pub overflow_mul-result-2 : goal.overflow_mul-result-2
overflow_mul-result-2 c = record { fits = omega (arith, risen_fits c.args.sum c.args.changes c.requires.0 c.requires.1) }

pub returns : goal.returns
returns c = refl
