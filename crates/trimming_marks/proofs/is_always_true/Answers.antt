-- `trimming_marks::is_always_true` meets its contract.
-- Assumes nothing.
use mathlib.Core.Path.{◌∙◌, ap}
use lib.ListN.{drop}
use Rattle.formula.specs.Causes.{any}
use Rattle.trimming_marks.specs.Marks.{first_clause, noted_clash}
use Rattle.trimming_marks.proofs.Noted.{noted_always_true}
use Rattle.trimming_marks.proofs.is_always_true.Goals as goal

pub returns : goal.returns
returns c =
    let given = c.args in
    c.has_clash.ensures
    ∙ ap (λ s. any (noted_clash s) (first_clause (drop given.start given.table.now))) c.note.ensures
    ∙ noted_always_true (first_clause (drop given.start given.table.now))
