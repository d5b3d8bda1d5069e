-- The causes of a name are tested in the definition's order. Assumes nothing.
use mathlib.Core.Path.{refl}
use native.Mathlib.Omega.{arith}
use borrow.Author.Tests.{lt-ltb, le-ltb}
use Rattle.formula.specs.Formula.{max_unknowns}
use Rattle.text.specs.Reading.{name_cause}
use Rattle.text.proofs.Places.{mark_none, mark_some}
use Rattle.text.proofs.names.name_cause.Goals as goal

pub returns-then-variables-v : goal.returns-then-variables-v
unfolding name_cause
returns-then-variables-v c = record { room = λ h. absurd (omega arith); right = λ names l x. rw (lt-ltb c.args.variables c.args.v c.if-variables-v.true) refl }

pub returns-then-places-v-ne0 : goal.returns-then-places-v-ne0
unfolding name_cause
returns-then-places-v-ne0 c = record { room = λ h. absurd (omega arith); right = λ names l x. rw (le-ltb c.args.variables c.args.v c.if-variables-v.false, mark_some x c.args.v (omega arith) c.if-places-v-ne0.true) refl }

pub returns-then-n-lt-UNKNOWNS : goal.returns-then-n-lt-UNKNOWNS
unfolding name_cause
returns-then-n-lt-UNKNOWNS c = record { room = λ h. (omega arith, omega arith); right = λ names l x. rw (le-ltb c.args.variables c.args.v c.if-variables-v.false, mark_none x c.args.v (omega arith) c.if-places-v-ne0.false, l, lt-ltb c.args.n max_unknowns c.if-n-lt-UNKNOWNS.true) refl }

pub returns : goal.returns
unfolding name_cause
returns c = record { room = λ h. absurd (omega arith); right = λ names l x. rw (le-ltb c.args.variables c.args.v c.if-variables-v.false, mark_none x c.args.v (omega arith) c.if-places-v-ne0.false, l, le-ltb c.args.n max_unknowns c.if-n-lt-UNKNOWNS.false) refl }
