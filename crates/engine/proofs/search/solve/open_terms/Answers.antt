-- `solve::open_terms` meets its contract. Assumes nothing.
use Rattle.engine.proofs.search.solve.open_terms.Goals as goal

pub returns-then-side-eq1 : goal.returns-then-side-eq1
returns-then-side-eq1 c = λ e. c.«open».ensures

pub returns-else-side-eq1 : goal.returns-else-side-eq1
returns-else-side-eq1 c = λ e. absurd (c.if-side-eq1.false e)
