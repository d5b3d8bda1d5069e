-- `writer::put_unknown` meets its contract: the definition's two cases are those that the code tests. Assumes nothing.
use lib.ListN.{length}
use mathlib.Core.Path.{sym, ap}
use native.Mathlib.Omega.{arith}
use Rattle.writer.proofs.PartLaws.{unknown_same, unknown_other, unknown_length}
use Rattle.writer.proofs.PutLaws.{put_then, put_as}
use Rattle.writer.proofs.put_unknown.Goals as goal

pub put_name-requires : goal.put_name-requires
put_name-requires c =
    let given = c.args in
    omega (arith, ap length (unknown_same given.before given.kind given.name c.if-kind-before.true))

pub returns-then-kind-before : goal.returns-then-kind-before
returns-then-kind-before c =
    let given = c.args in
    put_as (sym (unknown_same given.before given.kind given.name c.if-kind-before.true))
    c.put_name.ensures

pub append-a-requires : goal.append-a-requires
append-a-requires c =
    let given = c.args in
    omega (arith, unknown_length given.before given.kind given.name c.if-kind-before.false)

pub put_letter-b-requires : goal.put_letter-b-requires
put_letter-b-requires c =
    let given = c.args in
    let first = c.append-a.ensures.ends in
    omega (arith, unknown_length given.before given.kind given.name c.if-kind-before.false)

pub put_name-requires-2 : goal.put_name-requires-2
put_name-requires-2 c =
    let given = c.args in
    let first = c.append-a.ensures.ends in
    let second = c.put_letter-b.ensures.ends in
    omega (arith, unknown_length given.before given.kind given.name c.if-kind-before.false)

pub returns : goal.returns
returns c =
    let given = c.args in
    put_as (sym (unknown_other given.before given.kind given.name c.if-kind-before.false))
    (put_then (put_then c.append-a.ensures
    c.put_letter-b.ensures) c.put_name-2.ensures)
