-- `writer::put_name` meets its contract. Assumes nothing.
use lib.ListN.{length-append}
use native.Mathlib.Omega.{arith}
use Rattle.report.specs.Report.{ascii, decimal}
use Rattle.writer.proofs.PutLaws.{put_then}
use Rattle.writer.proofs.put_name.Goals as goal

pub put_number-a-requires : goal.put_number-a-requires
put_number-a-requires c = omega (arith, length-append (decimal c.args.name) (ascii " "))

pub append-requires : goal.append-requires
append-requires c =
    let first = c.put_number-a.ensures.ends in
    omega (arith, length-append (decimal c.args.name) (ascii " "))

pub returns : goal.returns
returns c = put_then c.put_number-a.ensures c.append.ensures
