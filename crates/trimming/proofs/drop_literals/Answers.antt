-- `trimming::drop_literals` meets its contract.
-- Assumes nothing.
use native.Mathlib.Omega.{arith}
use mathlib.Core.Path.{sym, ◌∙◌}
use Prim.Native.Nat.{◌≤◌}
use lib.ListN.{length}
use lib.Seq.{length-take-le}
use Rattle.trimming.proofs.LoopLaws.{list_bounds, list_saved, literals_dropped}
use Rattle.trimming.proofs.drop_literals.Goals as goal
use Rattle.trimming.proofs.drop_literals.Goals.{After-save-count}

pub save-count-requires : goal.save-count-requires
save-count-requires c =
    let given = c.args in
    let pre = c.requires in
    let b = list_bounds given.table.now pre.2 pre.1 given.code (let p = pre in omega (arith, p.5)) in
    (b.order, omega (arith, b.sized, b.to), omega (arith, b.from, b.to, pre.3), omega (arith, b.sized))

-- There was room for the list.
saved : (c : After-save-count) → c.save-count.result ≤ length c.save-count.new.names
saved c =
    let b = list_bounds c.args.table.now c.requires.2 c.requires.1 c.args.code (omega (arith, c.requires.5)) in
    omega (arith, c.save-count.ensures.0, b.from, b.to, c.save-count.auto.names, c.requires.3)

pub slice_bounds-mark_each-end : goal.slice_bounds-mark_each-end
slice_bounds-mark_each-end c = saved (goal.at.slice_bounds-mark_each-end c).After-save-count

pub slice_bounds-mark_each-end-2 : goal.slice_bounds-mark_each-end-2
slice_bounds-mark_each-end-2 c =
    sym (length-take-le c.save-count.result c.save-count.new.names (saved (goal.at.slice_bounds-mark_each-end-2 c).After-save-count))

pub mark_each-requires : goal.mark_each-requires
mark_each-requires c =
    let save_call = c.save-count in
    let given = c.args in
    let pre = c.requires in
    let s = list_saved given.table.now pre.2 pre.1 given.code (let p = pre in omega (arith, p.5)) save_call.new.names save_call.result
    (save_call.auto.names ∙ pre.3) save_call.ensures in
    (pre.0, s.0, pre.4, pre.5)

pub returns : goal.returns
returns c =
    let mark_each_call = c.mark_each in
    let save_call = c.save-count in
    let given = c.args in
    let pre = c.requires in
    let s = list_saved given.table.now pre.2 pre.1 given.code (let p = pre in omega (arith, p.5)) save_call.new.names save_call.result
    (save_call.auto.names ∙ pre.3) save_call.ensures in (
      literals_dropped given.table.now save_call.new.names given.code save_call.result pre.4 pre.5 pre.0 pre.1 pre.2 s.0
          mark_each_call.ensures c.clear.new.index c.clear.ensures,
      s.1,
      mark_each_call.ensures.own,
      mark_each_call.ensures.others,
    )
