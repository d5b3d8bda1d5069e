-- `writer::put_entry` meets its contract: the definition's three cases are those that the code tests. Assumes nothing.
use lib.ListN.{length}
use mathlib.Core.Path.{sym, ap}
use native.Mathlib.Omega.{arith}
use Rattle.writer.proofs.PartLaws.{entry_end, entry_positive, entry_negative}
use Rattle.writer.proofs.PutLaws.{put_then, put_as}
use Rattle.writer.proofs.put_entry.Goals as goal

pub append-requires : goal.append-requires
append-requires c =
    let given = c.args in
    omega (arith, ap length (entry_end given.names.now given.negative given.magnitude c.if-magnitude-eq0.true))

pub returns-then-magnitude-eq0 : goal.returns-then-magnitude-eq0
returns-then-magnitude-eq0 c =
    let given = c.args in
    put_as (sym (entry_end given.names.now given.negative given.magnitude c.if-magnitude-eq0.true))
    c.append.ensures

pub append-a-requires : goal.append-a-requires
append-a-requires c =
    let given = c.args in
    omega (
      arith,
      ap length (entry_negative given.names.now given.negative given.magnitude c.if-negative.true
          c.if-magnitude-eq0.false),
    )

pub put_name-requires : goal.put_name-requires
put_name-requires c =
    let given = c.args in
    let first = c.append-a.ensures.ends in
    omega (
      arith,
      ap length (entry_negative given.names.now given.negative given.magnitude
          c.if-negative.true c.if-magnitude-eq0.false),
    )

pub returns-then-negative : goal.returns-then-negative
returns-then-negative c =
    let given = c.args in
    put_as (sym (entry_negative given.names.now given.negative given.magnitude c.if-negative.true
    c.if-magnitude-eq0.false)) (put_then c.append-a.ensures
    c.put_name.ensures)

pub put_name-requires-2 : goal.put_name-requires-2
put_name-requires-2 c =
    let given = c.args in
    omega (
      arith,
      ap length (entry_positive given.names.now given.negative given.magnitude c.if-negative.false
          c.if-magnitude-eq0.false),
    )

pub returns : goal.returns
returns c =
    let given = c.args in
    put_as (sym (entry_positive given.names.now given.negative given.magnitude c.if-negative.false
    c.if-magnitude-eq0.false)) c.put_name-2.ensures
