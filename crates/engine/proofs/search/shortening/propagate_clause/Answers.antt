-- `propagate_clause` meets its contract: nothing follows, or the clause is false, or a value is forced. Assumes nothing.
use mathlib.Core.Path.{refl}
use native.Mathlib.Omega.{arith}
use Rattle.engine.proofs.search.HeldSteps.{false_moves}
use Rattle.engine.proofs.search.shortening.propagate_clause.Goals as goal

pub returns-else-not-is_false_but : goal.returns-else-not-is_false_but
returns-else-not-is_false_but c =
    false_moves _ _ _ c.empty.new.sets c.add_reasons.new.sets c.args.start 0 (omega arith) (omega arith)
    (c.if-not-begins.ensures refl) (c.if-not-is_false_but.ensures refl) refl c.empty.ensures c.add_reasons.ensures
