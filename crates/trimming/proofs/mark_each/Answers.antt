-- `trimming::mark_each` meets its contract. The loop's invariant: the clauses named so far have lost the literal.
-- Assumes nothing.
use mathlib.Core.Path.{sym, subst}
use Rattle.formula.proofs.Places.{drop_front}
use Rattle.trimming.specs.Private.Table.{Cleared}
use Rattle.trimming.proofs.ThinLaws.{clearing_begins, clearing_more}
use Rattle.trimming.proofs.mark_each.Goals as goal

pub loop-name-init : goal.loop-name-init
loop-name-init c =
    let table = c.args.table.now in
    subst (Cleared c.args.code table table) (sym c.requires.1) (clearing_begins c.args.code c.requires.2 c.requires.3 table c.requires.0)

pub loop-name-preserved : goal.loop-name-preserved
loop-name-preserved c =
    let loop = c.loop-name in
    clearing_more c.args.code c.requires.2 c.requires.3
    (subst (Cleared c.args.code c.args.table.now loop.table) (drop_front c.args.names.now loop.name-index 0 c.loop-name-test.true)
    loop.invariant)
    c.mark.new.table c.mark.ensures.table_after
