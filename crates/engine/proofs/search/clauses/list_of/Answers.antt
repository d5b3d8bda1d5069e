-- `clauses::list_of` meets its contract. Assumes nothing.
use native.Mathlib.Omega.{arith}
use Rattle.engine.proofs.search.PropagationLaws.{starts_part}
use Rattle.engine.proofs.search.clauses.list_of.Goals as goal

pub returns : goal.returns
returns c =
    λ codes starts. starts_part codes c.args.index.now _ _ c.min-begin.result c.min-end.result (omega arith) (omega arith) starts
