-- `search_numbering::write` meets its contract. The loop's invariant: the cells of the places passed are written. Assumes nothing.
use Prim.Native.Nat.{◌≤◌}
use mathlib.Core.Path.{◌≡◌}
use lib.Dec.{eqb}
use lib.ListN.{length, get_or}
use Rattle.formula.specs.Formula.{work_size}
use Rattle.search_numbering.specs.Numbering.{written}
use Rattle.search_numbering.proofs.write.Given as goal

abbrev pub invariant-loop-i : goal.invariant-loop-i
invariant-loop-i l = (l.i ≤ l.count) × (length l.work ≡ work_size) × (l.work ≡ written (λ h. eqb (get_or l.notes (get_or l.first h 0) 0) 2) l.k l.i
    l.initial.work)
