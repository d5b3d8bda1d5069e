-- `rows::table_fits` meets its contract. Assumes nothing.
use Prim.Native.Nat.{◌*◌}
use lib.ListN.{length}
use borrow.Author.Tests.{le-leb, lt-leb}
use Rattle.formula.specs.Formula.{max_rows}
use Rattle.rows.specs.Table.{table_fits}
use Rattle.rows.proofs.table_fits.Goals as goal

pub returns-then-length-lt-BYTES : goal.returns-then-length-lt-BYTES
unfolding table_fits
returns-then-length-lt-BYTES c = rw (lt-leb 16 (length c.args.rows.now) c.if-length-lt-BYTES.true)

pub returns-then-length : goal.returns-then-length
unfolding table_fits
returns-then-length c = rw (
  le-leb 16 (length c.args.rows.now) c.if-length-lt-BYTES.false,
  lt-leb (length c.args.rows.now)
      (max_rows * 16) c.if-length.true,
)

pub returns : goal.returns
unfolding table_fits
returns c = rw (
  le-leb 16 (length c.args.rows.now) c.if-length-lt-BYTES.false,
  le-leb (length c.args.rows.now)
      (max_rows * 16) c.if-length.false,
)
