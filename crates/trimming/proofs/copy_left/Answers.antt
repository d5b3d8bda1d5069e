-- `trimming::copy_left` meets its contract. The loop's invariant: the literals passed that are left stand one after the other.
-- Assumes nothing.
use native.Mathlib.Omega.{arith}
use borrow.Author.Tests.{lt-ltb, le-ltb}
use lib.IntN.{pos}
use lib.ListN.{get_or}
use mir.Syntax.{w32}
use mir.Val.{of_z, to_z}
use Rattle.codes.proofs.Words.{bits}
use Rattle.trimming.proofs.CopyLaws.{fewer, copied_one, passed_one, copied_all}
use Rattle.trimming.proofs.copy_left.Goals as goal
use Rattle.trimming.proofs.copy_left.Goals.{then-table-i-lt-DROPPED, else-table-i-lt-DROPPED}

pub offset_bounds-output-to : goal.offset_bounds-output-to
offset_bounds-output-to c =
    let f = fewer c.args.literals.now c.args.table.now c.requires.0 c.args.output.now c.requires.1 (c.loop-i.invariant c.requires.0 c.requires.1) in
    omega (arith, c.requires.1)

pub bounds-output-to : goal.bounds-output-to
bounds-output-to c =
    let f = fewer c.args.literals.now c.args.table.now c.requires.0 c.args.output.now c.requires.1 (c.loop-i.invariant c.requires.0 c.requires.1) in
    omega (arith, c.requires.1)

pub overflow_add-to : goal.overflow_add-to
overflow_add-to c =
    let f = fewer c.args.literals.now c.args.table.now c.requires.0 c.args.output.now c.requires.1 (c.loop-i.invariant c.requires.0 c.requires.1) in
    omega arith

pub loop-i-preserved : goal.loop-i-preserved
loop-i-preserved c =
    let literals = c.args.literals.now in
    let table = c.args.table.now in
    let i = c.loop-i.i in
    λ same room. elim c.if-table-i-lt-DROPPED.branch [
      | then-table-i-lt-DROPPED w ↦ rw (w.output-is, w.to-is)
          (copied_one literals table same c.args.output.now room (c.loop-i.invariant same room) c.loop-i-test.true
          (lt-ltb (get_or table i 0) 512 w.if-table-i-lt-DROPPED.true) (to_z w32 (of_z w32 (get_or literals i (pos 0))))
          (bits (λ z. z) (get_or literals i (pos 0)) (omega arith)))
      | else-table-i-lt-DROPPED w ↦ rw (w.output-is, w.to-is)
          (passed_one literals table same c.args.output.now room (c.loop-i.invariant same room) c.loop-i-test.true
          (le-ltb (get_or table i 0) 512 w.if-table-i-lt-DROPPED.false))
    ]

pub returns : goal.returns
returns c =
    let both = copied_all c.args.literals.now c.args.table.now c.requires.0 c.args.output.now c.requires.1
    (c.loop-i.invariant c.requires.0 c.requires.1) c.loop-i-test.false in
    record { value = both.0; output_after = both.1 }
