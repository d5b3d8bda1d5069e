-- `trimming_marks::is_universal` meets its contract.
-- Assumes nothing.
use Prim.Native.Nat.{ℕ, ◌/◌}
use native.Mathlib.Omega.{arith}
use mathlib.Core.Path.{sym, ap}
use mathlib.Core.Bool.{not}
use lib.Dec.{eqb}
use Rattle.trimming_marks.specs.Marks.{is_universal}
use Rattle.trimming_marks.proofs.KindLaws.{kind_none, kind_past, kind_named}
use Rattle.trimming_marks.proofs.is_universal.Goals as goal

pub returns-then-name-eq0 : goal.returns-then-name-eq0
unfolding is_universal
returns-then-name-eq0 c = sym (ap (λ (y : ℕ). not (eqb y 0)) (kind_none c.args.kinds.now (c.args.code / 2) (omega arith)))

pub returns-then-name-kinds : goal.returns-then-name-kinds
unfolding is_universal
returns-then-name-kinds c = sym (ap (λ (y : ℕ). not (eqb y 0)) (kind_past c.args.kinds.now (c.args.code / 2) (omega arith)))

pub returns : goal.returns
unfolding is_universal
returns c =
    rw c.from-name.ensures (sym (ap (λ (y : ℕ). not (eqb y 0)) (kind_named c.args.kinds.now (c.args.code / 2) (omega arith))))
