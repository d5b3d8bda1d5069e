-- `judgement::is_other` meets its contract. Assumes nothing.
use Rattle.judgement.proofs.FindingLaws.{no_sizes, other_unknowns, other_clauses, same_sizes}
use Rattle.judgement.proofs.is_other.Goals as goal

pub returns-then-record-ne1 : goal.returns-then-record-ne1
returns-then-record-ne1 c = no_sizes c.args.«record» c.args.unknowns c.args.clauses c.if-record-ne1.true

pub returns-then-record-unknowns : goal.returns-then-record-unknowns
returns-then-record-unknowns c = other_unknowns c.args.«record» c.args.unknowns c.args.clauses c.if-record-ne1.false c.if-record-unknowns.true

pub returns-then-record-clauses : goal.returns-then-record-clauses
returns-then-record-clauses c = other_clauses c.args.«record» c.args.unknowns c.args.clauses c.if-record-ne1.false c.if-record-unknowns.false c.if-record-clauses.true

pub returns : goal.returns
returns c = same_sizes c.args.«record» c.args.unknowns c.args.clauses c.if-record-ne1.false c.if-record-unknowns.false c.if-record-clauses.false
