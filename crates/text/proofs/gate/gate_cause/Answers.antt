-- The causes of a gate's name are tested in the definition's order. Assumes nothing.
use mathlib.Core.Path.{refl}
use native.Mathlib.Omega.{arith}
use borrow.Author.Tests.{lt-ltb, le-ltb}
use Rattle.formula.specs.Formula.{max_unknowns}
use Rattle.text.specs.Reading.{max_variables, gate_cause}
use Rattle.text.proofs.Places.{mark_none, mark_some}
use Rattle.text.proofs.gate.gate_cause.Goals as goal

pub returns-then-v-gt-LARGEST : goal.returns-then-v-gt-LARGEST
unfolding gate_cause
returns-then-v-gt-LARGEST c = record { room = λ h. absurd (omega arith); right = λ names l x. rw (lt-ltb max_variables c.args.v c.if-v-gt-LARGEST.true) refl }

pub returns-then-places-v-ne0 : goal.returns-then-places-v-ne0
unfolding gate_cause
returns-then-places-v-ne0 c = record { room = λ h. absurd (omega arith); right = λ names l x. rw (le-ltb max_variables c.args.v c.if-v-gt-LARGEST.false, mark_some x c.args.v c.if-v-gt-LARGEST.false c.if-places-v-ne0.true) refl }

pub returns-then-n-lt-UNKNOWNS : goal.returns-then-n-lt-UNKNOWNS
unfolding gate_cause
returns-then-n-lt-UNKNOWNS c = record { room = λ h. (c.if-v-gt-LARGEST.false, c.if-n-lt-UNKNOWNS.true); right = λ names l x. rw (le-ltb max_variables c.args.v c.if-v-gt-LARGEST.false, mark_none x c.args.v c.if-v-gt-LARGEST.false c.if-places-v-ne0.false, l, lt-ltb c.args.n max_unknowns c.if-n-lt-UNKNOWNS.true) refl }

pub returns : goal.returns
unfolding gate_cause
returns c = record { room = λ h. absurd (omega arith); right = λ names l x. rw (le-ltb max_variables c.args.v c.if-v-gt-LARGEST.false, mark_none x c.args.v c.if-v-gt-LARGEST.false c.if-places-v-ne0.false, l, le-ltb c.args.n max_unknowns c.if-n-lt-UNKNOWNS.false) refl }
