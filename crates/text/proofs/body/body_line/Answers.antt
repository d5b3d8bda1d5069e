-- A line is a prefix line, a clause or gate line, or refused. Assumes nothing.
use mathlib.Core.Path.{refl, sym, ◌∙◌}
use Rattle.text.specs.Private.Steps.{held}
use Rattle.text.proofs.BodyLaws.{resized, body_prefix, body_none, gate_item, clause_item}
use Rattle.text.proofs.body.body_line.Goals as goal

pub returns-then-binds : goal.returns-then-binds
unfolding held
returns-then-binds c = rw (body_prefix c.args.gates (held c.args.c c.args.kinds.now c.args.names.now c.args.literals.now) c.args.line.now (sym c.binds.ensures ∙ c.if-binds.true)) (c.prefix_line.ensures c.args.gates c.args.literals.now c.requires.0)

pub returns-else-is_item : goal.returns-else-is_item
unfolding held
returns-else-is_item c = rw (body_none c.args.gates (held c.args.c c.args.kinds.now c.args.names.now c.args.literals.now) c.args.line.now (sym c.binds.ensures ∙ c.if-binds.false) (sym c.is_item.ensures ∙ c.if-is_item.false)) (record { sized = resized refl refl refl refl refl refl c.requires.0; marked = c.requires.1; line = refl; free = λ _. refl; right = refl })

pub returns-then-gates : goal.returns-then-gates
unfolding held
returns-then-gates c = gate_item c.args.gates c.if-gates.true (held c.args.c c.args.kinds.now c.args.names.now c.args.literals.now) c.args.line.now (sym c.binds.ensures ∙ c.if-binds.false) (sym c.is_item.ensures ∙ c.if-is_item.true) c.gate_line.ensures

pub returns : goal.returns
unfolding held
returns c = clause_item c.args.gates c.if-gates.false (held c.args.c c.args.kinds.now c.args.names.now c.args.literals.now) c.args.line.now (sym c.binds.ensures ∙ c.if-binds.false) (sym c.is_item.ensures ∙ c.if-is_item.true) (c.clause_line.ensures c.args.kinds.now c.requires.0)
