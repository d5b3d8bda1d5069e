-- `certificate::put_file` meets its contract, in each case of what the writer returned. Assumes nothing.
use mathlib.Core.Path.{◌∙◌}
use Rattle.certificate.proofs.FileLaws.{written_so, length_counted, refused_counted}
use Rattle.certificate.proofs.put_file.Goals as goal

pub returns-in-Ok : goal.returns-in-Ok
returns-in-Ok c = record {
  value = length_counted c.args.«record» c.args.universal.now c.args.existential.now c.requires c.args.file.now c.write.ensures.value c.in-Ok.is;
  file_after = c.write.ensures.out_after ∙ written_so c.args.«record» c.args.universal.now c.args.existential.now c.requires c.args.file.now;
}

pub returns-in-Err : goal.returns-in-Err
returns-in-Err c = record {
  value = refused_counted c.args.«record» c.args.universal.now c.args.existential.now c.requires c.args.file.now c.write.ensures.value c.in-Err.is;
  file_after = c.write.ensures.out_after ∙ written_so c.args.«record» c.args.universal.now c.args.existential.now c.requires c.args.file.now;
}
