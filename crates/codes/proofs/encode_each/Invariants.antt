-- `codes::encode_each` meets its contract. The loop's invariant: the codes of the literals passed stand at their places.
-- Assumes nothing.
use Prim.Native.Nat.{◌≤◌}
use lib.ListN.{length}
use Rattle.codes.proofs.EachLaws.{Each}
use Rattle.codes.proofs.encode_each.Given as goal

abbrev pub invariant-loop-i : goal.invariant-loop-i
invariant-loop-i l = (l.i ≤ length l.literals) × Each l.literals l.initial.codes l.i l.codes
