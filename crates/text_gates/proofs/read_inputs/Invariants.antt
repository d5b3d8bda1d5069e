-- The inputs before `at` are passed: what the words from there on add makes the whole. Assumes nothing.
use Prim.Native.Nat.{◌-◌}
use lib.ListN.{length}
use Rattle.text_gates.proofs.GateLineLaws.{Passed}
use Rattle.text_gates.proofs.read_inputs.Given as goal

abbrev pub invariant-loop-at : goal.invariant-loop-at
invariant-loop-at l = Passed l.line l.i l.places l.count l.at l.inputs

abbrev pub decreases-loop-at : goal.decreases-loop-at
decreases-loop-at l = length l.line - l.at
