-- O's mark, then the limits, then its clause. Assumes nothing.
use Prim.Native.Nat.{◌+◌}
use mathlib.Core.Path.{sym, ap, ◌∙◌}
use Rattle.std.specs.Prelude.{Ok, Err}
use Rattle.cause.specs.declared.Cause.TheVariants.{Input, Sizes}
use native.Mathlib.Omega.{arith}
use lib.IntN.{ℤ, pos}
use lib.ListN.{set}
use Rattle.named.proofs.Negation.{signed_bits}
use Rattle.text_gates.proofs.ReturnedLaws.{returned_so}
use Rattle.text_gates.proofs.GateLineLaws.{output_unknown, output_over, output_full, output_put}
use Rattle.text_gates.proofs.put_output.Goals as goal

pub returns-then-not-is_marked : goal.returns-then-not-is_marked
returns-then-not-is_marked c =
    let given = c.args in
    let put = output_unknown given.negative given.v given.made given.m given.places.now given.literals.now
    (rw (← c.from.ensures) (sym c.is_marked.ensures ∙ c.if-not-is_marked.true)) in
    record { returned = returned_so (Err Input) put; put = put }

pub returns-then-made-ge-CLAUSES : goal.returns-then-made-ge-CLAUSES
returns-then-made-ge-CLAUSES c =
    let given = c.args in
    let put = output_over given.negative given.v given.made given.m given.places.now given.literals.now
    (rw (← c.from.ensures) (sym c.is_marked.ensures ∙ c.if-not-is_marked.false)) c.if-made-ge-CLAUSES.true in
    record { returned = returned_so (Err Sizes) put; put = put }

pub returns-then-not-has_two : goal.returns-then-not-has_two
returns-then-not-has_two c =
    let given = c.args in
    let put = output_full given.negative given.v given.made given.m given.places.now given.literals.now
    (rw (← c.from.ensures) (sym c.is_marked.ensures ∙ c.if-not-is_marked.false)) c.if-made-ge-CLAUSES.false
    (sym c.has_two.ensures ∙ c.if-not-has_two.true) in
    record { returned = returned_so (Err Sizes) put; put = put }

pub returns : goal.returns
returns c =
    let given = c.args in
    let put = output_put given.negative given.v given.made given.m given.places.now given.literals.now
    (rw (← c.from.ensures) (sym c.is_marked.ensures ∙ c.if-not-is_marked.false))
    c.if-made-ge-CLAUSES.false (sym c.has_two.ensures ∙ c.if-not-has_two.false)
    (ap (λ (z : ℤ). set (set given.literals.now given.m z) (given.m + 1) (pos 0)) (signed_bits given.negative given.v c.signed.result
    (omega arith) c.signed.ensures)) in
    record { returned = returned_so (Ok record { entries = given.m + 2; made = given.made + 1 }) put; put = put }
