-- `case_study::make` meets its contract. The loop's invariant: the table has the formula of the levels passed. Assumes nothing.
use native.Mathlib.Omega.{arith}
use mathlib.Core.Path.{◌∙◌}
use Rattle.study.specs.Study.{formula_of}
use Rattle.case_study.proofs.AcceptedLaws.{trimmed_accepted}
use Rattle.case_study.proofs.MakeLaws.{few_accepted, making_from, next_accepted, some_kind_left, some_value_left, next_known, made_next}
use Rattle.case_study.proofs.make.Goals as goal

pub settle-entries-requires : goal.settle-entries-requires
settle-entries-requires c = (c.requires.0, omega (arith, few_accepted c.args.kinds.now c.args.literals.now c.requires.0, c.requires.3))

pub loop-i-init : goal.loop-i-init
loop-i-init c = making_from c.args.setting c.args.kinds.now (formula_of c.args.setting.trim c.args.kinds.now c.args.literals.now) c.args.values.now _ _ _
    c.settle-entries.ensures (c.settle-entries.auto.output ∙ c.requires.3) c.requires.4

pub narrow-entries-requires : goal.narrow-entries-requires
narrow-entries-requires c = (
  next_accepted c.args.setting c.args.kinds.now (formula_of c.args.setting.trim c.args.kinds.now c.args.literals.now)
      c.args.values.now c.loop-i.table c.loop-i.left c.loop-i.entries c.loop-i.i c.loop-i.invariant
      (trimmed_accepted c.args.setting.trim c.args.kinds.now c.args.literals.now c.requires.0) c.requires.2 c.requires.1,
  c.loop-i.invariant.made.inside,
  some_kind_left c.args.setting c.args.kinds.now (formula_of c.args.setting.trim c.args.kinds.now c.args.literals.now) c.args.values.now c.loop-i.table
      c.loop-i.left c.loop-i.entries c.loop-i.i c.loop-i.invariant (trimmed_accepted c.args.setting.trim c.args.kinds.now c.args.literals.now c.requires.0)
      c.requires.2 c.requires.1 c.loop-i-test.true,
  some_value_left c.args.setting c.args.kinds.now
      (formula_of c.args.setting.trim c.args.kinds.now c.args.literals.now) c.args.values.now c.loop-i.table c.loop-i.left c.loop-i.entries c.loop-i.i
      c.loop-i.invariant (trimmed_accepted c.args.setting.trim c.args.kinds.now c.args.literals.now c.requires.0) c.requires.2 c.requires.1 c.loop-i-test.true,
  next_known c.args.setting c.args.kinds.now (formula_of c.args.setting.trim c.args.kinds.now c.args.literals.now) c.args.values.now c.loop-i.table
      c.loop-i.left c.loop-i.entries c.loop-i.i c.loop-i.invariant (trimmed_accepted c.args.setting.trim c.args.kinds.now c.args.literals.now c.requires.0)
      c.requires.2 c.requires.1 c.loop-i-test.true,
  c.loop-i.invariant.table_long,
  c.loop-i.invariant.left_long,
)

pub loop-i-preserved : goal.loop-i-preserved
loop-i-preserved c = made_next c.args.setting c.args.kinds.now (formula_of c.args.setting.trim c.args.kinds.now c.args.literals.now) c.args.values.now
    c.loop-i.table c.loop-i.left c.loop-i.entries c.loop-i.i c.loop-i.invariant (trimmed_accepted c.args.setting.trim c.args.kinds.now c.args.literals.now
    c.requires.0) c.requires.2 c.requires.1 c.loop-i-test.true _ _ _ c.narrow-entries.ensures c.narrow-entries.auto.table c.narrow-entries.auto.left
