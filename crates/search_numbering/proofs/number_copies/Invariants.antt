-- `search_numbering::number_copies` meets its contract. The loop's invariant: the copies of the rows passed are noted. Assumes nothing.
use Prim.Native.Nat.{◌+◌, ◌≤◌}
use mathlib.Core.Path.{◌≡◌}
use lib.ListN.{length, take}
use Rattle.formula.specs.Formula.{max_rows}
use Rattle.search_numbering.specs.Private.Wants.{firsts, Numbered}
use Rattle.search_numbering.proofs.number_copies.Given as goal

abbrev pub invariant-loop-i : goal.invariant-loop-i
invariant-loop-i l = (l.i-index ≤ length l.place) × (length l.notes ≡ max_rows) × (l.next ≤ l.number + l.i-index) × Numbered
    l.preferences l.number (firsts l.first (take l.i-index l.place)) l.next l.notes
