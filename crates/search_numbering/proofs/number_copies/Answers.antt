-- `search_numbering::number_copies` meets its contract. The loop's invariant: the copies of the rows passed are noted. Assumes nothing.
use Prim.Native.Nat.{◌<◌}
use mathlib.Core.Path.{ap, ◌∙◌}
use native.Mathlib.Omega.{arith}
use lib.ListN.{length, length-set}
use Rattle.search_numbering.proofs.FillSteps.{numbered_old, numbered_new}
use Rattle.search_numbering.proofs.number_copies.Goals as goal
use Rattle.search_numbering.proofs.number_copies.Goals.{else-notes-start-eq0, then-notes-start-eq0}

pub loop-i-preserved : goal.loop-i-preserved
loop-i-preserved c =
    let start = c.from-start in
    let sorted = c.from in
    let a = c.args in
    let l = c.loop-i in
    let byte : start.result < length l.notes = omega (arith, start.ensures, c.type_inv.first sorted.result) in
    elim c.if-notes-start-eq0.branch [
      | then-notes-start-eq0 t ↦ (
        omega arith,
        ap length t.notes-is ∙ length-set l.notes start.result t.note_of.result ∙ l.invariant.1,
        omega arith,
        rw (t.notes-is, t.next-is) (numbered_new a.preferences.now a.first.now a.place.now a.number l.i-index l.next l.notes (omega arith) l.invariant.3
            sorted.result start.result sorted.ensures start.ensures byte t.if-notes-start-eq0.true t.note_of.result t.note_of.ensures),
      )
      | else-notes-start-eq0 t ↦ (
        omega arith,
        ap length t.notes-is ∙ l.invariant.1,
        omega arith,
        rw (t.notes-is, t.next-is) (numbered_old a.preferences.now a.first.now a.place.now a.number l.i-index l.next l.notes (omega arith) l.invariant.3
            sorted.result start.result sorted.ensures start.ensures t.if-notes-start-eq0.false),
      )
    ]
