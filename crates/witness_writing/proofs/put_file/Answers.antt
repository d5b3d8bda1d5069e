-- What the writer returned, in each case. Assumes nothing.
use mathlib.Core.Path.{◌∙◌}
use Rattle.witness_writing.proofs.WriteLaws.{file_written, file_counted, none_counted}
use Rattle.witness_writing.proofs.put_file.Goals as goal

pub returns-in-Ok : goal.returns-in-Ok
returns-in-Ok c =
    let write_call = c.write in
    let given = c.args in
    let rows = given.rows.now in
    let out = given.file.now in record {
      value = file_counted given.«record» rows out write_call.ensures.value c.in-Ok.is;
      file_after = write_call.ensures.out_after ∙ file_written given.«record» rows out;
    }

pub returns-in-Err : goal.returns-in-Err
returns-in-Err c =
    let write_call = c.write in
    let given = c.args in
    let rows = given.rows.now in
    let out = given.file.now in record {
      value = none_counted given.«record» rows out write_call.ensures.value c.in-Err.is;
      file_after = write_call.ensures.out_after ∙ file_written given.«record» rows out;
    }
