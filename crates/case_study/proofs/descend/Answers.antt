-- `case_study::descend` meets its contract. Assumes nothing.
use Prim.Native.Nat.{◌+◌, ◌-◌}
use native.Mathlib.Omega.{arith}
use mathlib.Core.Path.{refl}
use lib.ListN.{length}
use Rattle.case_study.proofs.NameLaws.{unnamed_most}
use Rattle.case_study.proofs.ByteLaws.{descended, descended_all}
use Rattle.case_study.proofs.descend.Goals as goal

pub overflow_add-level : goal.overflow_add-level
overflow_add-level c = omega (arith, c.unnamed.ensures, unnamed_most (length c.args.kinds.now - c.args.depth) c.args.literals.now, c.requires.0.below)

pub overflow_sub-values : goal.overflow_sub-values
overflow_sub-values c = c.requires.1 (c.args.depth + c.unnamed.result)

pub returns-then-level-kinds : goal.returns-then-level-kinds
returns-then-level-kinds c = descended c.args.kinds.now c.args.literals.now c.args.values.now c.args.depth c.requires.0 c.requires.1 c.unnamed.result _ c.unnamed.ensures refl c.if-level-kinds.true

pub returns : goal.returns
returns c = descended_all c.args.kinds.now c.args.literals.now c.args.values.now c.args.depth c.requires.0 c.requires.1 c.unnamed.result _ c.unnamed.ensures refl c.if-level-kinds.false (omega (arith, c.unnamed.ensures, unnamed_most (length c.args.kinds.now - c.args.depth) c.args.literals.now, c.requires.0.below))
