-- `propagation::propagate_all` meets its contract. Assumes nothing.
use mathlib.Core.Path.{refl}
use native.Mathlib.Omega.{arith}
use Rattle.engine.proofs.search.PropagationLaws.{lent_starts, starts_taken}
use Rattle.engine.proofs.search.propagation.propagate_all.Goals as goal

pub returns : goal.returns
returns c = λ listed. c.propagate_rows.ensures (
  listed,
  starts_taken c.args.codes.now c.list_short-count.new.short c.list_short-count.result
      (c.list_short-count.ensures.1 (lent_starts c.requires listed 1 _ _ (omega arith) refl (omega arith))),
)
