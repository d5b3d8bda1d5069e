-- `is_passed` meets its contract. Assumes nothing.
use mathlib.Core.Path.{sym, ◌∙◌}
use Rattle.engine.proofs.search.TermLaws.{term_closed, term_passed}
use Rattle.engine.proofs.search.satisfied_rows.is_passed.Goals as goal

pub returns-then-is_open : goal.returns-then-is_open
returns-then-is_open c =
    let first_call = c.first in
    term_passed _ _ _ _ _ c.args.t first_call.result _ _ first_call.ensures c.is_met.ensures

pub returns : goal.returns
returns c = term_closed _ _ _ _ _ _ _ (sym c.is_open.ensures ∙ c.if-is_open.false)
