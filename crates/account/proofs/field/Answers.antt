-- `account::field` meets its contract: what `io::decimal` makes is the number's decimal form, of at most twenty bytes. Assumes nothing.
use native.Mathlib.Omega.{arith}
use Rattle.report.proofs.Decimal.{at_most_twenty, digits_decimal}
use Rattle.account.proofs.field.Goals as goal

pub append-requires : goal.append-requires
append-requires c = omega (arith, at_most_twenty c.decimal-count.result c.args.number c.ranges.number.fits c.decimal-count.ensures.len)

pub returns : goal.returns
returns c =
    let number = c.args.number in
    let small = c.ranges.number.fits in
    let fewest = c.decimal-count.ensures.len in record {
      upper_bound = omega (arith, at_most_twenty c.decimal-count.result number small fewest);
      text_after = cc (digits_decimal c.decimal-count.result number small fewest);
    }
