-- `reply::check_rows` meets its contract, test by test.
-- Assumes nothing.
use Prim.Native.Nat.{ℕ}
use mathlib.Core.Path.{sym, ap, ◌∙◌}
use Rattle.rows.specs.Stray.{stray_rows}
use Rattle.reply.proofs.FitLaws.{width_owned}
use Rattle.reply.proofs.CauseLaws.{rows_4, rows_7_claim, rows_7_count, rows_8, rows_0}
use borrow.Author.Rules.{rules}
use Rattle.reply.proofs.check_rows.Goals as goal

pub returns-then-not-table_fits : goal.returns-then-not-table_fits
returns-then-not-table_fits c = rows_4 c.args.kinds.now c.args.claim c.args.rows.now c.args.count (search rules)

pub returns-then-claim-gt1 : goal.returns-then-claim-gt1
returns-then-claim-gt1 c = rows_7_claim c.args.kinds.now c.args.claim c.args.rows.now c.args.count (search rules) c.if-claim-gt1.true

pub returns-then-rows-count : goal.returns-then-rows-count
returns-then-rows-count c = rows_7_count c.args.kinds.now c.args.claim c.args.rows.now c.args.count (search rules) c.if-rows-count.true

pub returns-then-stray_bit : goal.returns-then-stray_bit
returns-then-stray_bit c =
    rows_8 c.args.kinds.now c.args.claim c.args.rows.now c.args.count (search rules) c.if-claim-gt1.false c.if-rows-count.false
    (ap (λ (m : ℕ). stray_rows m c.args.count c.args.rows.now) (width_owned c.args.kinds.now c.args.claim ∙ sym c.owned.ensures.value)
    ∙ sym c.stray_bit.ensures
    ∙ c.if-stray_bit.true)

pub returns : goal.returns
returns c =
    rows_0 c.args.kinds.now c.args.claim c.args.rows.now c.args.count (search rules) c.if-claim-gt1.false c.if-rows-count.false
    (ap (λ (m : ℕ). stray_rows m c.args.count c.args.rows.now) (width_owned c.args.kinds.now c.args.claim ∙ sym c.owned.ensures.value)
    ∙ sym c.stray_bit.ensures
    ∙ c.if-stray_bit.false)
