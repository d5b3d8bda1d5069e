-- The table is read where it reaches. Assumes nothing.
use Rattle.std.proofs.Common.{rules, ◌∙◌}
use borrow.Author.Tests.{le-ltb}
use Rattle.text_gates.proofs.GateLineLaws.{mark_is, no_mark}
use Rattle.text_gates.proofs.is_marked.Goals as goal

pub returns-then-v-lt-PLACES : goal.returns-then-v-lt-PLACES
returns-then-v-lt-PLACES c = mark_is c.args.places.now c.args.v c.if-v-lt-PLACES.true (search rules)

pub returns-else-v-lt-PLACES : goal.returns-else-v-lt-PLACES
returns-else-v-lt-PLACES c = le-ltb c.args.v _ c.if-v-lt-PLACES.false ∙ no_mark c.args.places.now c.args.v c.if-v-lt-PLACES.false
