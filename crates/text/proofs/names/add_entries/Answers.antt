-- The words from `at` on, added after what the tables hold, give what the line does after what they held. Assumes nothing.
use mathlib.Core.Path.{refl, sym, ◌∙◌}
use Rattle.lines.proofs.Pieces.{words_none}
use Rattle.text.proofs.names.add_entries.Goals as goal

pub returns : goal.returns
returns c = record { names = c.loop-at.invariant.3; entries = c.loop-at.invariant.4; places = c.loop-at.invariant.1; room = c.loop-at.invariant.2; kept = c.loop-at.invariant.6; marked = c.loop-at.invariant.7; right = λ s e f. sym (c.loop-at.invariant.5 s e f ∙ rw (words_none c.args.line.now c.loop-at.at c.loop-at-test.false) refl) }
