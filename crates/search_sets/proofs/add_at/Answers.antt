-- `search_sets::add_at` meets its contract. Assumes nothing.
use native.Mathlib.Omega.{arith}
use Prim.Native.Nat.{ℕ, ◌+◌, ◌*◌, ◌/◌, ◌%◌}
use mathlib.Core.Path.{ap}
use lib.Bits.{bit_or}
use lib.ListN.{get_or, set}
use Rattle.search_sets.specs.Sets.{bit_added}
use Rattle.search_sets.proofs.MaskLaws.{one_shifted}
use Rattle.search_sets.proofs.add_at.Goals as goal

pub returns : goal.returns
unfolding bit_added
returns c =
    let given = c.args in
    let at = 2 * given.to + given.p / 64 in
    ap (λ (x : ℕ). set given.sets.now at (bit_or (get_or given.sets.now at 0) x)) (one_shifted (given.p % 64) (omega arith))
