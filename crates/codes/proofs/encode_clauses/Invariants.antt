-- `codes::encode_clauses` meets its contract. The loop's invariant: the codes are those of the clauses passed.
-- Assumes nothing.
use Prim.Native.Nat.{◌-◌, ◌≤◌}
use mathlib.Core.Path.{◌≡◌}
use lib.ListN.{length}
use Rattle.codes.proofs.ReadLaws.{EncodedTo}
use Rattle.codes.proofs.encode_clauses.Given as goal

abbrev pub invariant-loop-from : goal.invariant-loop-from
invariant-loop-from l =
    (l.from ≤ length l.literals) × (l.to ≤ l.from) × (length l.codes ≡ length l.initial.codes) × EncodedTo l.literals l.from l.to l.codes

abbrev pub decreases-loop-from : goal.decreases-loop-from
decreases-loop-from l = length l.literals - l.from
