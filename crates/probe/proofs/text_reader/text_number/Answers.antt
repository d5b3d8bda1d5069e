-- `probe::text_reader::text_number` meets its contract. Assumes nothing.
use mathlib.Core.Path.{sym, ap, ◌∙◌}
use Rattle.probe.specs.TextReader.{text_number}
use Rattle.probe.proofs.text_reader.text_number.Goals as goal

pub returns-in-Err : goal.returns-in-Err
returns-in-Err c = c.refusal_number.ensures ∙ sym (ap text_number c.in-Err.is)
