-- Each number is tested in turn. Assumes nothing.
use mathlib.Core.Path.{refl}
use borrow.Author.Tests.{lt-leb, le-leb}
use Rattle.witness_writing.proofs.fit.Goals as goal

pub returns-then-unknowns-gt65535 : goal.returns-then-unknowns-gt65535
returns-then-unknowns-gt65535 c = rw (lt-leb c.args.unknowns 65535 c.if-unknowns-gt65535.true) refl

pub returns-then-clauses-gt65535 : goal.returns-then-clauses-gt65535
returns-then-clauses-gt65535 c =
    let given = c.args in
    rw (le-leb given.unknowns 65535 c.if-unknowns-gt65535.false, lt-leb given.clauses 65535 c.if-clauses-gt65535.true) refl

pub returns-then-count-gt65535 : goal.returns-then-count-gt65535
returns-then-count-gt65535 c =
    let given = c.args in
    let one = le-leb given.unknowns 65535 c.if-unknowns-gt65535.false in
    rw (one, le-leb given.clauses 65535 c.if-clauses-gt65535.false, lt-leb given.count 65535 c.if-count-gt65535.true) refl

pub returns : goal.returns
returns c =
    let given = c.args in
    let one = le-leb given.unknowns 65535 c.if-unknowns-gt65535.false in
    rw (one, le-leb given.clauses 65535 c.if-clauses-gt65535.false, le-leb given.count 65535 c.if-count-gt65535.false) refl
