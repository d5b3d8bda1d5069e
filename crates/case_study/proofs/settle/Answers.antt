-- `case_study::settle` meets its contract. Assumes nothing.
use lib.ListN.{length}
use Rattle.case_study.proofs.LaidLaws.{settled_same, settled_trimmed, wrong_none}
use Rattle.case_study.proofs.settle.Goals as goal

pub restrict-requires : goal.restrict-requires
restrict-requires c = (c.requires.0, c.requires.1, wrong_none (length c.args.kinds.now))

pub returns-then-trim-eq0 : goal.returns-then-trim-eq0
returns-then-trim-eq0 c = settled_same c.args.kinds.now c.args.literals.now c.requires.0 c.args.output.now c.requires.1 c.args.trim _ _ c.if-trim-eq0.true c.restrict.ensures

pub returns : goal.returns
returns c = settled_trimmed c.args.kinds.now c.args.literals.now c.requires.0 c.args.output.now c.requires.1 c.args.trim _ _ c.if-trim-eq0.false c.trim_into.ensures
