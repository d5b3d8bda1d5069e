-- `writer::put_letter` meets its contract. Assumes nothing.
use lib.ListN.{length}
use mathlib.Core.Path.{sym, ap}
use native.Mathlib.Omega.{arith}
use Rattle.writer.proofs.PartLaws.{letter_zero, letter_other}
use Rattle.writer.proofs.PutLaws.{put_as}
use Rattle.writer.proofs.put_letter.Goals as goal

pub append-requires : goal.append-requires
append-requires c = omega (arith, ap length (letter_zero c.args.kind c.if-kind-eq0.true))

pub returns-then-kind-eq0 : goal.returns-then-kind-eq0
returns-then-kind-eq0 c = put_as (sym (letter_zero c.args.kind
    c.if-kind-eq0.true)) c.append.ensures

pub append-requires-2 : goal.append-requires-2
append-requires-2 c = omega (arith, ap length (letter_other c.args.kind c.if-kind-eq0.false))

pub returns : goal.returns
returns c = put_as (sym (letter_other c.args.kind
    c.if-kind-eq0.false)) c.append-2.ensures
