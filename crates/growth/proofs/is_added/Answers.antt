-- `growth::is_added` meets its contract. Assumes nothing.
use mathlib.Core.Path.{sym, ap, ◌∙◌}
use mathlib.Core.Bool.{Bool, ◌&&◌}
use lib.Dec.{ltb}
use Rattle.rows.specs.Table.{room}
use Rattle.growth.proofs.is_added.Goals as goal

pub returns-then-is_new : goal.returns-then-is_new
returns-then-is_new c =
    let given = c.args in
    ap (λ (v : Bool). v && ltb given.end (room given.rows.now)) (sym c.if-is_new.true ∙ c.is_new.ensures)

pub returns-else-is_new : goal.returns-else-is_new
returns-else-is_new c =
    let given = c.args in
    ap (λ (v : Bool). v && ltb given.end (room given.rows.now)) (sym c.if-is_new.false ∙ c.is_new.ensures)
