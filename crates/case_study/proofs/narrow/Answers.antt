-- `case_study::narrow` meets its contract. Assumes nothing.
use Prim.Native.Nat.{◌-◌}
use native.Mathlib.Omega.{arith}
use lib.ListN.{take}
use Rattle.case_study.proofs.MakeLaws.{few_accepted, part_accepted, fine_value, narrowed_accepted, narrowed}
use Rattle.case_study.proofs.narrow.Goals as goal

pub restrict-used-requires : goal.restrict-used-requires
restrict-used-requires c =
    let fine = part_accepted c.args.setting c.args.kinds.now c.args.values.now c.args.table.now c.args.entries c.requires.0 c.requires.2 c.requires.3 c.requires.4 in
    (fine, omega (arith, few_accepted c.args.kinds.now (take (c.args.entries - 0) c.args.table.now) fine, c.requires.6), fine_value c.args.setting c.args.kinds.now c.args.values.now c.args.table.now c.args.entries c.requires.0 c.requires.2 c.requires.3 c.requires.4)

pub settle-requires : goal.settle-requires
settle-requires c =
    let fine = narrowed_accepted c.args.setting c.args.kinds.now c.args.values.now c.args.table.now c.args.entries c.requires.0 c.requires.2 c.requires.3 c.requires.4 _ c.restrict-used.result c.restrict-used.ensures in
    (fine, omega (arith, few_accepted _ _ fine, c.requires.5))

pub returns : goal.returns
returns c = narrowed c.args.setting c.args.kinds.now c.args.values.now c.args.table.now c.args.entries c.requires.0 c.requires.2 c.requires.3 c.requires.4 _ c.restrict-used.result c.restrict-used.ensures c.unnamed-passed.result c.trim_at-trim.result c.unnamed-passed.ensures c.trim_at-trim.ensures _ _ c.settle.ensures
