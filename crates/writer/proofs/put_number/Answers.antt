-- `writer::put_number` meets its contract: what `io::decimal` makes is the number's decimal form. Assumes nothing.
use lib.ListN.{length}
use mathlib.Core.Path.{ap, ◌∙◌}
use native.Mathlib.Omega.{arith}
use Rattle.report.proofs.Decimal.{digits_decimal}
use Rattle.writer.proofs.PutLaws.{put_as}
use Rattle.writer.proofs.put_number.Goals as goal

pub append-requires : goal.append-requires
append-requires c =
    let decimal_call = c.decimal-count in
    let spelled = decimal_call.ensures.digits ∙ digits_decimal decimal_call.result c.args.number
    c.ranges.number.fits decimal_call.ensures.len in
    omega (arith, ap length spelled)

pub returns : goal.returns
returns c =
    let decimal_call = c.decimal-count in
    put_as (decimal_call.ensures.digits ∙ digits_decimal decimal_call.result c.args.number c.ranges.number.fits
    decimal_call.ensures.len) c.append.ensures
