-- `trimmed_text::trim` meets its contract: an accepted formula is trimmed. Assumes nothing.
use Rattle.trimmed_text.proofs.CallLaws.{trimmed_entries, never_refused}
use Rattle.trimmed_text.proofs.trim.Goals as goal

pub returns-in-Ok : goal.returns-in-Ok
returns-in-Ok c =
    let both = trimmed_entries c.args.kinds.now c.args.literals.now c.args.left.now c.requires.0 c.requires.1 c.trim.ensures.value c.trim.ensures.output_after c.in-Ok.entries c.in-Ok.is in
    record { upper_bound = both.0; left_after = both.1 }

pub returns-in-Err : goal.returns-in-Err
returns-in-Err c = record {
  upper_bound = absurd (never_refused c.args.kinds.now c.args.literals.now c.args.left.now c.requires.0 c.requires.1 c.trim.ensures.value c.trim.ensures.output_after c.in-Err.field-0 c.in-Err.is);
  left_after = absurd (never_refused c.args.kinds.now c.args.literals.now c.args.left.now c.requires.0 c.requires.1 c.trim.ensures.value c.trim.ensures.output_after c.in-Err.field-0 c.in-Err.is);
}
