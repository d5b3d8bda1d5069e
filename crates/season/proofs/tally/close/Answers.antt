-- `season::tally::close` meets its contract: the tests stand in the order of the causes. Assumes nothing.
use mathlib.Core.Path.{refl}
use Rattle.season.specs.Private.Tally.{closed}
use Rattle.season.proofs.Closing.{first_cause, later, here, next}
use Rattle.season.proofs.tally.close.Goals as goal

pub returns-then-length-gt-STUDIES : goal.returns-then-length-gt-STUDIES
unfolding closed
returns-then-length-gt-STUDIES c = first_cause _ _ c.if-length-gt-STUDIES.true

pub returns-then-t : goal.returns-then-t
unfolding closed
returns-then-t c = later _ _ _ c.if-length-gt-STUDIES.false (here _ _ _ c.if-t.true)

pub returns-then-t-2 : goal.returns-then-t-2
unfolding closed
returns-then-t-2 c = later _ _ _ c.if-length-gt-STUDIES.false (next _ _ _ _ c.if-t.false (here _ _ _ c.if-t-2.true))

pub returns : goal.returns
unfolding closed
returns c = later _ _ _ c.if-length-gt-STUDIES.false (next _ _ _ _ c.if-t.false (next _ _ _ _ c.if-t-2.false refl))
