-- `search_cells::value` meets its contract. Assumes nothing.
use mathlib.Core.Path.{sym}
use native.Mathlib.Omega.{arith}
use Rattle.search_cells.proofs.CellLaws.{value_at}
use Rattle.search_cells.proofs.value.Goals as goal

pub returns : goal.returns
returns c = sym (value_at c.args.i c.args.k (omega arith) (omega arith) c.args.work.now)
