-- The shape is tested first. Assumes nothing.
use mathlib.Core.Path.{sym, ◌∙◌}
use Rattle.std.specs.Prelude.{Err}
use Rattle.cause.specs.declared.Cause.TheVariants.{Shape}
use Rattle.text_gates.proofs.GateLineLaws.{line_unshaped}
use Rattle.text_gates.proofs.ReturnedLaws.{returned_so}
use Rattle.text_gates.proofs.put_line.Goals as goal

pub returns-then-not-is_gate : goal.returns-then-not-is_gate
returns-then-not-is_gate c =
    let given = c.args in
    let put = line_unshaped given.line.now given.v given.made given.m given.places.now given.literals.now
    (sym c.is_gate.ensures ∙ c.if-not-is_gate.true) in
    record { returned = returned_so (Err Shape) put; put = put }

pub returns-clause-returned : goal.returns-clause-returned
returns-clause-returned c = returned_so c.put_clauses.result c.put_clauses.ensures

pub returns-clause-put : goal.returns-clause-put
returns-clause-put c = c.put_clauses.ensures
