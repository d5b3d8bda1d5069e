-- `probe::text_reader::told_text` meets its contract. Assumes nothing.
use mathlib.Core.Path.{sym, ap}
use Rattle.probe.specs.TextReader.{text_told}
use Rattle.probe.proofs.text_reader.told_text.Goals as goal

pub returns-in-Ok : goal.returns-in-Ok
returns-in-Ok c = sym (ap text_told c.in-Ok.is)

pub returns-in-Err : goal.returns-in-Err
returns-in-Err c = sym (ap text_told c.in-Err.is)
