-- `case_study::unnamed` meets its contract. The loop's invariant: the entries ahead are to be counted from the nearest name so far. Assumes nothing.
use mathlib.Core.Path.{◌≡◌}
use lib.ListN.{drop}
use Rattle.case_study.specs.Private.Path.{unnamed as unnamed_in}
use Rattle.case_study.proofs.unnamed.Given as goal

abbrev pub invariant-loop-literal : goal.invariant-loop-literal
invariant-loop-literal l = (unnamed_in l.most l.literals ≡ unnamed_in l.nearest (drop l.literal-index l.literals))
