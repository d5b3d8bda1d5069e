-- `codes::encode_each` meets its contract. The loop's invariant: the codes of the literals passed stand at their places.
-- Assumes nothing.
use native.Mathlib.Omega.{arith}
use mathlib.Core.Path.{◌∙◌}
use lib.IntN.{pos}
use lib.ListN.{get_or}
use Rattle.codes.specs.Codes.{code_of}
use Rattle.codes.proofs.Words.{bits}
use Rattle.codes.proofs.EachLaws.{each_more}
use Rattle.codes.proofs.encode_each.Goals as goal

pub loop-i-preserved : goal.loop-i-preserved
loop-i-preserved c =
    let literals = c.args.literals.now in (
      omega arith,
      each_more literals c.args.codes.now c.requires.0 c.loop-i.i c.loop-i.codes c.code_of.result c.loop-i-test.true c.loop-i.invariant.1
          (c.code_of.ensures ∙ bits code_of (get_or literals c.loop-i.i (pos 0)) (omega arith)),
    )
