-- `probe::text_reader::probe_read_text` meets its contract. Assumes nothing.
use mathlib.Core.Path.{ap, ◌∙◌}
use Rattle.probe.specs.TextReader.{text_number, text_told}
use Rattle.probe.specs.declared.text_reader.Told.{Told}
use Rattle.probe.proofs.text_reader.probe_read_text.Goals as goal

pub returns : goal.returns
returns c =
    let so = c.read-answer.ensures.written in
    let told = c.told_text-told.ensures ∙ ap text_told so.returns in
    record {
      numbered = c.text_number.ensures ∙ ap text_number so.returns;
      unknowns_told = ap (λ (t : Told). t.unknowns) told;
      entries_told = ap (λ (t : Told). t.entries) told;
      variables_told = ap (λ (t : Told). t.variables) told;
      clauses_told = ap (λ (t : Told). t.clauses) told;
      line_told = ap (λ (t : Told). t.line) told;
      writes_kinds = so.writes_kinds;
      writes_literals = so.writes_literals;
      writes_names = so.writes_names;
    }
