-- The words from `at` on are closed by zero if those from i on are. Assumes nothing.
use mathlib.Core.Path.{refl, sym, ◌∙◌}
use Rattle.lines.proofs.Pieces.{words_none}
use Rattle.lines.proofs.shapes.closed.Goals as goal

pub returns : goal.returns
returns c = sym (c.loop-at.invariant.1 ∙ rw (words_none c.args.line.now c.loop-at.at c.loop-at-test.false) refl)
