-- `witness::claim_of` meets its contract. Assumes nothing.
use mathlib.Core.Path.{sym, ap, ◌∙◌}
use mathlib.Core.Bool.{Bool}
use lib.ListN.{get_or}
use Rattle.witness.specs.File.{if_stands}
use Rattle.witness.proofs.claim_of.Goals as goal

pub returns-then-there : goal.returns-then-there
returns-then-there c = c.byte.ensures ∙ sym (ap (λ (t : Bool). if_stands t (get_or c.args.file.now 1 0)) c.if-there.true)
