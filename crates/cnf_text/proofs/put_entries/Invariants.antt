-- `cnf_text::put_entries` meets its contract. Assumes nothing.
use Prim.Native.Nat.{◌+◌, ◌≤◌}
use lib.ListN.{drop}
use Rattle.writer.proofs.PutLaws.{Left}
use Rattle.cnf_text.specs.Private.Walk.{walk, walked}
use Rattle.cnf_text.proofs.put_entries.Given as goal

abbrev pub invariant-loop-i : goal.invariant-loop-i
invariant-loop-i l = (l.t ≤ l.first + l.i) × Left (walked l.places l.style l.first l.literals) l.at l.initial.text
    (walk l.places l.style l.kept l.t (drop l.i l.literals)) l.end l.text
