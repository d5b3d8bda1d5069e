-- `study::any_setting` meets its contract. The loop's invariant: what is told of the settings from the place on is told of all. Assumes nothing.
use Prim.Native.Nat.{◌*◌}
use mathlib.Core.Bool.{Bool}
use lib.ListN.{drop}
use Rattle.study.specs.Study.{settings_of}
use Rattle.study.specs.Private.Turns.{Tells}
use Rattle.study.proofs.any_setting.Given as goal

abbrev pub invariant-loop-at : goal.invariant-loop-at
invariant-loop-at g l = (r : Bool) → Tells (goal.F-post g l.test) (settings_of (drop (4 * l.at) l.settings)) r → Tells (goal.F-post g l.test)
    (settings_of l.settings) r
