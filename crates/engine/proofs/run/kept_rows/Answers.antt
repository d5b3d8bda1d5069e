-- `run::kept_rows` meets its contract. Assumes nothing.
use mathlib.Core.Path.{sym, ap, ◌∙◌}
use mathlib.Core.Bool.{Bool, cond}
use Rattle.engine.proofs.run.kept_rows.Goals as goal

pub returns-then-clears : goal.returns-then-clears
returns-then-clears c = ap (λ (b : Bool). cond b 0 c.args.count) (sym c.if-clears.true ∙ c.clears.ensures)

pub returns : goal.returns
returns c = ap (λ (b : Bool). cond b 0 c.args.count) (sym c.if-clears.false ∙ c.clears.ensures)
