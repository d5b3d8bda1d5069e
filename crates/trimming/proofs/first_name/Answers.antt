-- `trimming::first_name` meets its contract.
-- Assumes nothing.
use mathlib.Core.Path.{◌∙◌, ap}
use Prim.Native.Nat.{ℕ}
use lib.ListN.{get_or}
use Rattle.trimming.proofs.first_name.Goals as goal

pub returns : goal.returns
returns c = c.name.ensures ∙ ap (λ (n : ℕ). get_or c.args.index.now n 0) c.begin.ensures
