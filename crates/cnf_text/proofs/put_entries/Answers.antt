-- `cnf_text::put_entries` meets its contract. Assumes nothing.
use mathlib.Core.Path.{◌≡◌}
use borrow.Author.Rules.{rules}
use lib.IntN.{pos}
use lib.Signed.{lt_z}
use lib.ListN.{get_or}
use mir.Syntax.{w32}
use mir.Val.{to_z, of_z}
use Rattle.formula.specs.Literal.{magnitude_at, negative_at}
use Rattle.writer.proofs.PutLaws.{left_next}
use Rattle.cnf_text.proofs.EntryLaws.{next_entry, later_number, sign_read}
use Rattle.cnf_text.proofs.put_entries.Goals as goal

pub loop-i-preserved : goal.loop-i-preserved
loop-i-preserved c =
    let lent = c.args in
    let loop = c.loop-i in
    let literals = lent.literals.now in
    let name = c.unsigned_abs-name.result in
    let same : name ≡ magnitude_at literals loop.i = search rules in
    let minus : lt_z (to_z w32 (of_z w32 (get_or literals loop.i (pos 0)))) (pos 0) ≡ negative_at literals loop.i = search (rules, sign_read) in (
      later_number loop.t name loop.i lent.first c.number_behind-t.result loop.invariant.0 c.number_behind-t.ensures,
      left_next (next_entry lent.places.now lent.style loop.kept loop.t literals loop.i name _ c.loop-i-test.true same minus c.is_kept_behind-kept.result
          c.number_behind-t.result c.is_kept_behind-kept.ensures c.number_behind-t.ensures) loop.invariant.1 c.put_entry-end.ensures c.put_entry-end.auto.text,
    )
