-- `account::opening` meets its contract. Assumes nothing.
use Prim.Native.Nat.{ℕ}
use native.Mathlib.Omega.{arith}
use mathlib.Core.Path.{ap, ◌∙◌}
use mathlib.Core.List.{◌++◌}
use lib.ListN.{take}
use lib.Seq.{get_or-take, length-take-le}
use Rattle.account.specs.Account.{value_line}
use Rattle.account.proofs.LineLaws.{opening_next, opening_all}
use Rattle.account.proofs.opening.Goals as goal

pub loop-k-preserved : goal.loop-k-preserved
loop-k-preserved c =
    let q = c.args in
    let turn = c.loop-k in
    let all = length-take-le q.block q.names.now c.requires.0 in
    let here = get_or-take q.block q.names.now turn.k 0 (omega arith) in
    let line = c.value_line-end.ensures.text_after ∙ ap (λ (n : ℕ). take turn.end turn.text ++ value_line c.bit.result n) here in
    (omega arith, opening_next (take q.at q.text.now) q.row.now q.names.now q.block turn.k (omega arith) c.requires.0 c.bit.ensures line turn.invariant.1)

pub returns-clause-text_after : goal.returns-clause-text_after
returns-clause-text_after c =
    let q = c.args in
    let all = length-take-le q.block q.names.now c.requires.0 in
    c.loop-k.invariant.1 ∙ opening_all (take q.at q.text.now) q.row.now q.names.now q.block c.loop-k.k (omega arith)
