-- `is_own` meets its contract. Assumes nothing.
use Rattle.engine.specs.Private.Terms.{own}
use lib.Dec.{eqb}
use lib.ListN.{get_or-eq_default, get_or}
use mathlib.Core.Path.{sym, ap, ◌∙◌}
use Rattle.std.proofs.lemmas.Bool.{le-ltb}
use Prim.Native.Nat.{ℕ}
use Rattle.engine.proofs.search.term_table.is_own.Goals as goal

pub returns-then-k-kinds : goal.returns-then-k-kinds
unfolding own
returns-then-k-kinds c = ap (λ (k : ℕ). eqb (get_or c.args.kinds.now k 0) 1) c.position-k.ensures.0

pub returns-else-k-kinds : goal.returns-else-k-kinds
unfolding own
returns-else-k-kinds c =
    le-ltb _ _ c.if-k-kinds.false
    ∙ ap (λ (x : ℕ). eqb x 1) (sym (get_or-eq_default c.args.kinds.now 0 c.if-k-kinds.false))
    ∙ ap (λ (k : ℕ). eqb (get_or c.args.kinds.now k 0) 1) c.position-k.ensures.0
