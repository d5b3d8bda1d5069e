-- `cnf_text::rows_cause` meets its contract. Assumes nothing.
use Prim.Native.Nat.{ℕ}
use mathlib.Core.Path.{sym, ap, ◌∙◌}
use Rattle.cnf_text.proofs.OutputLaws.{cause_4, cause_7, cause_8, cause_none}
use Rattle.rows.specs.Stray.{stray_rows}
use Rattle.rows.specs.Table.{room}
use Rattle.cnf_text.proofs.rows_cause.Goals as goal

pub returns-else-table_fits : goal.returns-else-table_fits
returns-else-table_fits c = cause_4 _ c.args.claim c.args.rows.now (sym c.table_fits.ensures ∙ c.if-table_fits.false)

pub returns-then-claim-gt1 : goal.returns-then-claim-gt1
returns-then-claim-gt1 c = cause_7 _ c.args.claim c.args.rows.now (sym c.table_fits.ensures ∙ c.if-table_fits.true) c.if-claim-gt1.true

pub width-width-requires : goal.width-width-requires
width-width-requires c = c.requires

pub returns-then-stray_bit : goal.returns-then-stray_bit
returns-then-stray_bit c = cause_8 _ c.args.claim c.args.rows.now (sym c.table_fits.ensures ∙ c.if-table_fits.true) c.if-claim-gt1.false (ap (λ (w : ℕ). stray_rows w (room c.args.rows.now) c.args.rows.now) (sym c.width-width.ensures) ∙ sym c.stray_bit.ensures ∙ c.if-stray_bit.true)

pub returns : goal.returns
returns c = cause_none _ c.args.claim c.args.rows.now (sym c.table_fits.ensures ∙ c.if-table_fits.true) c.if-claim-gt1.false (ap (λ (w : ℕ). stray_rows w (room c.args.rows.now) c.args.rows.now) (sym c.width-width.ensures) ∙ sym c.stray_bit.ensures ∙ c.if-stray_bit.false)
