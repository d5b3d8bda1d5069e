-- `trimming::copy_left` meets its contract. The loop's invariant: the literals passed that are left stand one after the other.
-- Assumes nothing.
use Prim.Native.Nat.{◌≤◌}
use mathlib.Core.Path.{◌≡◌}
use mathlib.Core.List.{map}
use lib.ListN.{length}
use Rattle.codes.specs.Codes.{code_of}
use Rattle.trimming.specs.Private.Table.{codes}
use Rattle.trimming.proofs.CopyLaws.{Copied}
use Rattle.trimming.proofs.copy_left.Given as goal

abbrev pub invariant-loop-i : goal.invariant-loop-i
invariant-loop-i l = (same : codes l.table ≡ map code_of l.literals) (room : length l.literals ≤ length l.initial.output) → Copied l.literals
    l.table same l.initial.output room l.output l.to l.i
