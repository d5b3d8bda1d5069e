-- `codes::encode_entries` meets its contract. Assumes nothing.
use native.Mathlib.Omega.{arith}
use mathlib.Core.Path.{sym, ◌∙◌}
use lib.ListN.{length}
use Rattle.formula.specs.Formula.{max_unknowns}
use Rattle.codes.proofs.EncodeLaws.{refused_longer, refused_beyond, refused_neither}
use Rattle.codes.proofs.ReadLaws.{names_all}
use Rattle.codes.proofs.encode_entries.Goals as goal

pub returns-then-codes-literals : goal.returns-then-codes-literals
returns-then-codes-literals c = rw (refused_longer c.args.literals.now (length c.args.codes.now) (omega arith))

pub returns-then-has_beyond : goal.returns-then-has_beyond
returns-then-has_beyond c =
    let given = c.args in
    rw (refused_beyond given.literals.now (length given.codes.now) (sym c.has_beyond.ensures ∙ c.if-has_beyond.true))

pub encode_each-requires : goal.encode_each-requires
encode_each-requires c = (
  c.if-codes-literals.false,
  names_all max_unknowns c.args.literals.now
      (sym c.has_beyond.ensures ∙ c.if-has_beyond.false),
)

pub returns : goal.returns
returns c =
    let given = c.args in
    rw (refused_neither given.literals.now (length given.codes.now) c.if-codes-literals.false
    (sym c.has_beyond.ensures ∙ c.if-has_beyond.false))
    c.encode_each.ensures
