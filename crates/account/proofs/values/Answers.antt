-- `account::values` meets its contract. Assumes nothing.
use Prim.Native.Nat.{ℕ}
use native.Mathlib.Omega.{arith}
use native.Mathlib.Nat.{add-zero}
use mathlib.Core.Path.{◌≡◌, ap, ◌∙◌}
use lib.ListN.{take}
use Rattle.rows.specs.Table.{row_at}
use Rattle.account.proofs.LineLaws.{none_yet, values_next, values_all}
use Rattle.account.proofs.values.Goals as goal

pub loop-k-init : goal.loop-k-init
loop-k-init c = ap (λ (n : ℕ). take n c.args.text.now) (add-zero c.args.at) ∙ none_yet (take c.args.at c.args.text.now)

pub loop-k-preserved : goal.loop-k-preserved
loop-k-preserved c =
    let q = c.args in
    values_next (take q.at q.text.now) c.loop-k.text q.at c.loop-k.k q.m (row_at q.rows.now q.i) c.digit_of.ensures c.bit.ensures (omega arith) (omega arith)
    c.loop-k.invariant

pub returns-clause-text_after : goal.returns-clause-text_after
returns-clause-text_after c =
    let q = c.args in
    let end : c.loop-k.k ≡ q.m = omega arith in
    rw end at (c.loop-k.invariant ∙ values_all (take q.at q.text.now) c.loop-k.text q.at c.loop-k.k q.m (row_at q.rows.now q.i) (omega arith))
