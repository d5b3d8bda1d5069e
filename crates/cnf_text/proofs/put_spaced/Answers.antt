-- `cnf_text::put_spaced` meets its contract. Assumes nothing.
use native.Mathlib.Omega.{arith}
use lib.ListN.{length-append}
use Rattle.report.specs.Report.{ascii, decimal}
use Rattle.writer.proofs.PutLaws.{put_then}
use Rattle.cnf_text.proofs.put_spaced.Goals as goal

pub put_number-a-requires : goal.put_number-a-requires
put_number-a-requires c = omega (arith, length-append (decimal c.args.v) (ascii " "))

pub append-requires : goal.append-requires
append-requires c = let first = c.put_number-a.ensures.ends in omega (arith, length-append (decimal c.args.v) (ascii " "))

pub returns : goal.returns
returns c = put_then c.put_number-a.ensures c.append.ensures
