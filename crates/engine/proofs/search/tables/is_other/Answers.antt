-- `tables::is_other` meets its contract. Assumes nothing.
use Rattle.engine.proofs.search.PreparedLaws.{other_one, other_above}
use Rattle.engine.proofs.search.tables.is_other.Goals as goal

pub returns-then-c-eq1 : goal.returns-then-c-eq1
returns-then-c-eq1 c = other_one c.args.code c.from-c.ensures c.if-c-eq1.true

pub returns : goal.returns
returns c = other_above c.args.code c.from-c.ensures c.if-c-eq1.false
