-- `restriction::write_entry` meets its contract.
-- Assumes nothing.
use native.Mathlib.Omega.{arith}
use mathlib.Core.Path.{sym, ◌∙◌}
use lib.IntN.{pos}
use lib.ListN.{get_or}
use mir.Syntax.{w32}
use mir.Val.{of_z, to_z}
use Rattle.named.proofs.Negation.{signed_bits}
use Rattle.restriction.proofs.WriteLaws.{dropped_writes, set_writes, moved_writes}
use Rattle.restriction.proofs.write_entry.Goals as goal

pub returns-then-not-kept : goal.returns-then-not-kept
returns-then-not-kept c =
    let given = c.args in
    let both = dropped_writes given.values.now given.kept (get_or given.literals.now given.i (pos 0)) given.output.now given.to c.if-not-kept.true in
    record { value = both.0; output_after = both.1 }

pub returns-then-is_set : goal.returns-then-is_set
returns-then-is_set c =
    let given = c.args in
    let name = c.magnitude_at-name in
    let both = set_writes given.values.now given.kept (get_or given.literals.now given.i (pos 0)) given.output.now given.to
    c.if-not-kept.false name.result name.ensures (sym c.is_set.ensures ∙ c.if-is_set.true) in
    record { value = both.0; output_after = both.1 }

pub moved-requires : goal.moved-requires
moved-requires c =
    let small = c.requires.0 c.args.i in
    omega (arith, c.magnitude_at-name.ensures)

pub returns : goal.returns
returns c =
    let given = c.args in
    let name = c.magnitude_at-name in
    let sign = c.negative_at in
    let moved_name = c.moved in
    let literal = c.signed in
    let is_kept = c.if-not-kept.false in
    let not_set = sym c.is_set.ensures ∙ c.if-is_set.false in
    let as_written = signed_bits sign.result moved_name.result literal.result (omega arith) literal.ensures in
    let both = moved_writes given.values.now given.kept (get_or given.literals.now given.i (pos 0)) given.output.now given.to
    is_kept name.result name.ensures not_set sign.result sign.ensures
    moved_name.result moved_name.ensures (to_z w32 (of_z w32 literal.result)) as_written in
    record { value = both.0; output_after = both.1 }
