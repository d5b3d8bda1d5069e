-- `preference::preference` meets its contract: the definition's two cases are the two that the code tests.
-- Assumes nothing.
use mathlib.Core.Path.{◌∙◌, sym}
use native.Mathlib.Nat.{mod-lt}
use native.Mathlib.Omega.{arith}
use Rattle.preference.proofs.Laws.{prefer_none, prefer_lent}
use Rattle.preference.proofs.preference.Goals as goal

pub returns-then-lent-eq0 : goal.returns-then-lent-eq0
returns-then-lent-eq0 c =
    let given = c.args in
    c.house.ensures ∙ sym (prefer_none given.lent.now given.i (omega arith))

pub bounds-lent-i : goal.bounds-lent-i
bounds-lent-i c = mod-lt _ (omega arith)

pub returns : goal.returns
returns c =
    let given = c.args in
    sym (prefer_lent given.lent.now given.i (omega arith))
