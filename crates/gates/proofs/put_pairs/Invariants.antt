-- `gates::put_pairs` meets its contract. The loop's invariant: what the inputs left would add makes the whole. Assumes nothing.
use Prim.Native.Nat.{◌+◌, ◌*◌}
use mathlib.Core.Path.{◌≡◌}
use lib.ListN.{drop}
use lib.Seq.{sets}
use Rattle.gates.specs.Private.Steps.{pair_entries}
use Rattle.gates.proofs.put_pairs.Given as goal

abbrev pub invariant-loop-input : goal.invariant-loop-input
invariant-loop-input l =
    (l.to ≡ l.at + 3 * l.input-index)
    × (sets l.initial.entries l.at (pair_entries l.first l.turned l.inputs) ≡ sets l.entries l.to (pair_entries l.first l.turned (drop l.input-index l.inputs)))
