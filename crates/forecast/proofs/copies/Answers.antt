-- `forecast::copies` meets its contract. Assumes nothing.
use mathlib.Core.Path.{sym, ◌∙◌}
use Rattle.forecast.proofs.ToldLaws.{copies_told}
use Rattle.forecast.proofs.copies.Goals as goal

pub returns : goal.returns
returns c =
    let tell_call = c.tell in
    let given = c.args in
    let pre = c.requires in
    c.sum.ensures
    ∙ sym (copies_told given.kinds.now given.rows.now tell_call.new.numbers given.count pre.0 pre.2 tell_call.ensures
    given.universal)
