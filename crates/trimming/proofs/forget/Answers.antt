-- `trimming::forget` meets its contract.
-- Assumes nothing.
use native.Mathlib.Omega.{arith}
use mathlib.Core.Path.{refl, sym, ◌∙◌, ap}
use mathlib.Core.Bool.{Bool, cond}
use borrow.Author.Tests.{eq-eqb, ne_eqb}
use lib.ListN.{get_or}
use Rattle.index.specs.Index.{removed}
use Rattle.trimming.proofs.forget.Goals as goal

pub returns-then-left-eq1 : goal.returns-then-left-eq1
returns-then-left-eq1 c =
    let given = c.args in record {
      index_after = c.remove.ensures ∙ sym (ap (λ (b : Bool). cond b (removed given.index.now given.x given.start) given.index.now)
          (eq-eqb (get_or given.counts.now given.x 0) 1 (omega arith)));
      counts_after = refl;
    }

pub returns-else-left-eq1 : goal.returns-else-left-eq1
returns-else-left-eq1 c =
    let given = c.args in record {
      index_after = sym (ap (λ (b : Bool). cond b (removed given.index.now given.x given.start) given.index.now)
          (ne_eqb (get_or given.counts.now given.x 0) 1 (λ e. omega arith)));
      counts_after = refl;
    }
