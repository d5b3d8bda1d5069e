-- `cnf_text::is_same_front` meets its contract. Assumes nothing.
use mathlib.Core.Path.{refl, sym, ◌∙◌}
use mathlib.Core.Bool.{Bool, not, beq}
use Rattle.cnf_text.proofs.KeptLaws.{parts, differ_so}
use Rattle.cnf_text.proofs.is_same_front.Goals as goal

pub returns-then-bit : goal.returns-then-bit
returns-then-bit c = sym (parts c.args.rows.now c.args.j c.args.i c.loop-k.k c.args.count c.loop-k-test.true
    (λ e. differ_so (λ (a b : Bool). not (beq a b)) refl refl c.bit.result c.bit-in-loop-k.result c.if-bit.true
    (c.bit.ensures ∙ e ∙ sym c.bit-in-loop-k.ensures)))
