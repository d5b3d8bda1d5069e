-- `ones` meets its contract. Assumes nothing.
use Rattle.engine.proofs.search.BitLaws.{full_bit, ones_bit}
use Rattle.engine.specs.Private.TermTables.{bit}
use mathlib.Core.Path.{ap, ◌∙◌}
use Rattle.search_sets.proofs.MaskLaws.{one_shifted}
use native.Mathlib.Omega.{arith}
use Prim.Native.Nat.{ℕ, ◌-◌}
use Rattle.engine.proofs.search.term_table.ones.Goals as goal

pub returns-then-k-lt64 : goal.returns-then-k-lt64
returns-then-k-lt64 c = λ l lt. ap (λ (x : ℕ). bit (x - 1) l) (one_shifted c.args.k c.if-k-lt64.true) ∙ ones_bit c.args.k l lt

pub returns-else-k-lt64 : goal.returns-else-k-lt64
returns-else-k-lt64 c = λ l lt. full_bit l (omega arith)
