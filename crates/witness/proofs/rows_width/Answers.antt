-- `witness::rows_width` meets its contract. Assumes nothing.
use Prim.Native.Nat.{ℕ, ◌+◌, ◌*◌}
use mathlib.Core.Path.{ap, ◌∙◌}
use native.Mathlib.Omega.{arith}
use Rattle.witness.specs.File.{if_stands}
use Rattle.witness.proofs.rows_width.Goals as goal

pub returns : goal.returns
returns c =
    let number_call = c.number-count in record {
      value = c.width.ensures.value ∙ ap (λ (n : ℕ). if_stands c.args.there (2 + 16 * n)) number_call.ensures;
      upper_bound = omega
          (arith, c.width.ensures.upper_bound, number_call.type_inv);
    }
