-- `trimming::note_unit` meets its contract.
-- Assumes nothing.
use Prim.Native.Nat.{ℕ, ◌/◌}
use mathlib.Core.Path.{ap, ◌∙◌}
use lib.ListN.{set}
use Rattle.trimming.proofs.FirstLaws.{noted_none, noted_least}
use Rattle.trimming.proofs.note_unit.Goals as goal

pub returns-then-code-eq0 : goal.returns-then-code-eq0
returns-then-code-eq0 c = noted_none c.args.code c.args.start c.args.firsts.now c.if-code-eq0.true

pub returns : goal.returns
returns c =
    ap (λ (k : ℕ). set c.args.firsts.now (c.args.code / 2) k) c.min.ensures
    ∙ noted_least c.args.code c.args.start c.args.firsts.now c.if-code-eq0.false
