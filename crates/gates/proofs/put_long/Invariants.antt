-- `gates::put_long` meets its contract. The loop's invariant: what the inputs left would add makes the whole. Assumes nothing.
use Prim.Native.Nat.{◌+◌}
use mathlib.Core.Path.{◌≡◌}
use mathlib.Core.List.{[], ◌∷◌, ◌++◌, map}
use lib.IntN.{pos}
use lib.ListN.{drop}
use lib.Seq.{sets}
use Rattle.gates.specs.Private.Steps.{turn}
use Rattle.gates.proofs.put_long.Given as goal

abbrev pub invariant-loop-input : goal.invariant-loop-input
invariant-loop-input l =
    (l.to ≡ l.initial.to + l.input-index)
    × (sets l.initial.entries l.initial.to (map (turn l.turned) l.inputs ++ (pos 0 ∷ [])) ≡ sets l.entries l.to (map (turn l.turned) (drop l.input-index l.inputs) ++ (pos 0 ∷ [])))
