-- `cnf_text::put_number` meets its contract: what `io::decimal` makes is the number's decimal form. Assumes nothing.
use native.Mathlib.Omega.{arith}
use mathlib.Core.Path.{ap, ◌∙◌}
use lib.ListN.{length}
use Rattle.report.proofs.Decimal.{digits_decimal}
use Rattle.writer.proofs.PutLaws.{put_as}
use Rattle.cnf_text.proofs.put_number.Goals as goal

pub append-requires : goal.append-requires
append-requires c = let spelled = c.decimal-count.ensures.digits ∙ digits_decimal c.decimal-count.result c.args.number c.ranges.number.fits c.decimal-count.ensures.len in omega (arith, ap length spelled)

pub returns : goal.returns
returns c = let spelled = c.decimal-count.ensures.digits ∙ digits_decimal c.decimal-count.result c.args.number c.ranges.number.fits c.decimal-count.ensures.len in put_as spelled c.append.ensures
