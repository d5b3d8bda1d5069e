-- `search_numbering::fill` meets its contract. Assumes nothing.
use mathlib.Core.Path.{sym, ◌∙◌}
use Rattle.search_numbering.proofs.FillSteps.{filled_sized, filled_unsized}
use Rattle.search_numbering.proofs.fill.Goals as goal

pub returns-else-is_sized : goal.returns-else-is_sized
returns-else-is_sized c =
    let a = c.args in
    filled_unsized a.kinds.now a.preferences.now a.place.now a.differences.now a.side a.work.now
    (sym c.is_sized.ensures ∙ c.if-is_sized.false)

pub returns : goal.returns
returns c =
    let a = c.args in
    filled_sized a.kinds.now a.preferences.now a.place.now a.differences.now a.side a.work.now
    (sym c.is_sized.ensures ∙ c.if-is_sized.true)
    c.fill_positions.new.work c.fill_positions.ensures
