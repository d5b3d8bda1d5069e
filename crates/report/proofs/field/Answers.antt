-- `report::field` meets its contract: what `io::decimal` makes is the number's decimal form, of at most twenty bytes. Assumes nothing.
use native.Mathlib.Omega.{arith}
use borrow.Author.Rules.{rules}
use Rattle.report.proofs.Decimal.{at_most_twenty, digits_decimal}
use Rattle.report.proofs.field.Goals as goal

pub append-requires : goal.append-requires
append-requires c =
    let made = c.decimal-count in
    omega (arith, at_most_twenty made.result c.args.number c.ranges.number.fits made.ensures.len)

pub returns : goal.returns
returns c =
    let made = c.decimal-count in
    let number = c.args.number in
    let small = c.ranges.number.fits in
    let fewest = made.ensures.len in record {
      upper_bound = omega (arith, at_most_twenty made.result number small fewest);
      text_after = cc (digits_decimal made.result number small fewest);
    }
