-- `gates::gather` meets its contract. Assumes nothing.
use Prim.Native.Nat.{◌+◌, ◌*◌}
use native.Mathlib.Omega.{arith}
use mathlib.Core.Path.{ap, ◌∙◌}
use mathlib.Core.Bool.{not}
use lib.IntN.{ℤ}
use lib.ListN.{length}
use lib.Seq.{sets}
use mir.Facts.{to_z-of_z}
use Rattle.gates.specs.Private.Steps.{pair_entries, long_entries, gathered_entries}
use Rattle.gates.proofs.EntryLaws.{length_gathered, gathered_put}
use Rattle.gates.proofs.SetLaws.{put_whole, put_short}
use Rattle.gates.proofs.gather.Goals as goal

pub returns-then-entries-size : goal.returns-then-entries-size
returns-then-entries-size c =
    let given = c.args in
    let both = put_short given.entries.now given.at _ (4 * length given.inputs.now + 2) (length_gathered given.near given.far given.turned
    given.inputs.now) (omega arith) in
    record { value = both.0; entries_after = both.1 }

pub returns-then-entries-size-2 : goal.returns-then-entries-size-2
returns-then-entries-size-2 c =
    let given = c.args in
    let both = put_short given.entries.now given.at _ (4 * length given.inputs.now + 2) (length_gathered given.near given.far given.turned
    given.inputs.now) (omega arith) in
    record { value = both.0; entries_after = both.1 }

pub returns : goal.returns
returns c =
    let put_pairs_call = c.put_pairs in
    let fits = c.ranges in
    let given = c.args in
    let is = given.inputs.now in
    let both = put_whole given.entries.now given.at (gathered_entries given.near given.far given.turned is) (4 * length is + 2)
    (length_gathered given.near given.far given.turned is) (omega arith) c.put_long.new.entries
    (gathered_put given.entries.now put_pairs_call.new.entries c.put_long.new.entries given.at given.near given.far
    given.turned is
    (put_pairs_call.ensures ∙ ap (λ (z : ℤ). sets given.entries.now given.at (pair_entries z given.turned is)) (to_z-of_z fits.near))
    (c.put_long.ensures ∙ ap (λ (z : ℤ). sets put_pairs_call.new.entries (given.at + 3 * length is)
    (long_entries z (not given.turned) is)) (to_z-of_z fits.far))) in
    record { value = both.0; entries_after = both.1 }
