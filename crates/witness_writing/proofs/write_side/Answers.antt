-- Nothing where a number does not fit; else the file of the record. Assumes nothing.
use mathlib.Core.Path.{sym, ◌∙◌}
use Rattle.witness_writing.specs.WitnessFile.{file_of}
use Rattle.witness_writing.proofs.WriteLaws.{nothing_put, fitting_file, no_file, each_fits, record_put}
use Rattle.witness_writing.proofs.write_side.Goals as goal

pub returns-else-fit : goal.returns-else-fit
returns-else-fit c =
    let given = c.args in
    let rows = given.rows.now in
    let bytes = file_of given.value given.unknowns given.clauses rows given.count given.rounds in
    let bad = sym c.fit.ensures ∙ c.if-fit.false in
    let both = nothing_put bytes given.file.now (no_file given.value given.unknowns given.clauses rows given.count given.rounds bad) in
    record { value = both.0; file_after = both.1 }

pub record_of-record-requires : goal.record_of-record-requires
record_of-record-requires c =
    let given = c.args in
    each_fits given.unknowns given.clauses given.count given.rounds (sym c.fit.ensures ∙ c.if-fit.true)

pub returns : goal.returns
returns c =
    let put_call = c.put_file in
    let given = c.args in
    let rows = given.rows.now in
    let fits = sym c.fit.ensures ∙ c.if-fit.true in
    let file = fitting_file given.value given.unknowns given.clauses rows given.count given.rounds fits in
    let both = record_put rows given.file.now c.record_of-record.ensures (sym file) put_call.ensures.value put_call.ensures.file_after in
    record { value = both.0; file_after = both.1 }
