-- `restriction::write_left` meets its contract. The loop's invariant: what is left of the entries passed stands one after the other, and the entries
-- ahead are to leave the rest.
-- Assumes nothing.
use Rattle.restriction.specs.Outcome.{values_of}
use Rattle.restriction.proofs.WriteLaws.{written_begins, written_more}
use Rattle.restriction.proofs.write_left.Goals as goal

pub loop-i-init : goal.loop-i-init
loop-i-init c =
    let given = c.args in
    let first = c.stands-kept in
    written_begins (values_of given.values.now) given.literals.now given.output.now first.result first.ensures

pub loop-i-preserved : goal.loop-i-preserved
loop-i-preserved c =
    let given = c.args in
    let entry = c.write_entry-to in
    let behind = c.is_kept_behind-kept in
    let room = c.requires.1 in
    let inv = c.loop-i.invariant in
    let below = c.loop-i-test.true in
    written_more (values_of given.values.now) given.literals.now given.output.now room inv below
    behind.result _ entry.result behind.ensures entry.ensures.value entry.ensures.output_after
