-- `gates::differ` meets its contract. Assumes nothing.
use native.Mathlib.Omega.{arith}
use mathlib.Core.Path.{◌∙◌}
use Rattle.gates.specs.Private.Steps.{parity_entries}
use Rattle.gates.proofs.EntryLaws.{length_four, none_of_four, four_inputs}
use Rattle.gates.proofs.SetLaws.{put_whole, put_short, put_none}
use Rattle.gates.proofs.differ.Goals as goal

pub returns-then-inputs-ne2 : goal.returns-then-inputs-ne2
returns-then-inputs-ne2 c =
    let given = c.args in
    let both = put_none given.entries.now given.at _ (none_of_four given.literal given.inputs.now c.if-inputs-ne2.true) in
    record { value = both.0; entries_after = both.1 }

pub returns-then-entries-lt16 : goal.returns-then-entries-lt16
returns-then-entries-lt16 c =
    let given = c.args in
    let both = put_short given.entries.now given.at _ 16 (length_four given.literal given.inputs.now c.if-inputs-ne2.false) (omega arith) in
    record { value = both.0; entries_after = both.1 }

pub returns-then-entries-at : goal.returns-then-entries-at
returns-then-entries-at c =
    let given = c.args in
    let both = put_short given.entries.now given.at _ 16 (length_four given.literal given.inputs.now c.if-inputs-ne2.false) (omega arith) in
    record { value = both.0; entries_after = both.1 }

pub returns : goal.returns
returns c =
    let given = c.args in
    let small = c.requires in
    let two = c.if-inputs-ne2.false in
    let both = put_whole given.entries.now given.at (parity_entries given.literal given.inputs.now) 16
    (length_four given.literal given.inputs.now two) (omega arith) c.put_four.new.entries
    (c.put_four.ensures
    ∙ four_inputs given.entries.now given.at given.literal given.inputs.now small.0 small.1 two) in
    record { value = both.0; entries_after = both.1 }
