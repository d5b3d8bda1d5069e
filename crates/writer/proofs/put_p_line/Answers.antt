-- `writer::put_p_line` meets its contract: its parts stand one behind the other. Assumes nothing.
use native.Mathlib.Omega.{arith}
use Rattle.writer.proofs.PartLaws.{p_line_length}
use Rattle.writer.proofs.PutLaws.{put_then}
use Rattle.writing.specs.Writing.{p_line}
use Rattle.writer.proofs.put_p_line.Goals as goal

pub append-a-requires : goal.append-a-requires
append-a-requires c =
    let given = c.args in
    omega (arith, p_line_length given.variables given.clauses)

pub put_number-b-requires : goal.put_number-b-requires
put_number-b-requires c =
    let given = c.args in
    let a = c.append-a.ensures.ends in omega (arith, p_line_length given.variables given.clauses)

pub append-c-requires : goal.append-c-requires
append-c-requires c =
    let given = c.args in
    let a = c.append-a.ensures.ends in
    let b = c.put_number-b.ensures.ends in
    omega (arith, p_line_length given.variables given.clauses)

pub put_number-d-requires : goal.put_number-d-requires
put_number-d-requires c =
    let given = c.args in
    let a = c.append-a.ensures.ends in
    let b = c.put_number-b.ensures.ends in
    let d = c.append-c.ensures.ends in
    omega (arith, p_line_length given.variables given.clauses)

pub append-requires : goal.append-requires
append-requires c =
    let given = c.args in
    let a = c.append-a.ensures.ends in
    let b = c.put_number-b.ensures.ends in
    let d = c.append-c.ensures.ends in
    let e = c.put_number-d.ensures.ends in
    omega (arith, p_line_length given.variables given.clauses)

pub returns : goal.returns
unfolding p_line
returns c = put_then (put_then
    (put_then (put_then c.append-a.ensures
    c.put_number-b.ensures) c.append-c.ensures)
    c.put_number-d.ensures) c.append.ensures
