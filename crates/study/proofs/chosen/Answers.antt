-- `study::chosen` meets its contract. Assumes nothing.
use Rattle.study.proofs.TurnLaws.{lent_chosen, trimmed_chosen}
use Rattle.study.proofs.chosen.Goals as goal

pub returns-then-trim-eq0 : goal.returns-then-trim-eq0
returns-then-trim-eq0 c = lent_chosen c.args.trim c.args.literals.now _ c.if-trim-eq0.true

pub returns : goal.returns
returns c = trimmed_chosen c.args.trim c.args.literals.now c.args.table.now c.args.entries c.if-trim-eq0.false
