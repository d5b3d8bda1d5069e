-- `codes::encode` meets its contract. Assumes nothing.
use native.Mathlib.Omega.{arith}
use mathlib.Core.Path.{sym, ◌∙◌}
use lib.ListN.{length}
use Rattle.formula.specs.Formula.{max_unknowns}
use Rattle.codes.proofs.EncodeLaws.{encoding_length, refused_longer, refused_beyond, refused_neither, nothing_made, all_made}
use Rattle.codes.proofs.ReadLaws.{names_all}
use Rattle.codes.proofs.encode.Goals as goal

pub returns-then-codes-literals : goal.returns-then-codes-literals
returns-then-codes-literals c =
    let given = c.args in
    let both = nothing_made given.literals.now given.codes.now (refused_longer given.literals.now (length given.codes.now) (omega arith)) in
    record { value = both.0; codes_after = both.1 }

pub returns-then-has_beyond : goal.returns-then-has_beyond
returns-then-has_beyond c =
    let given = c.args in
    let both = nothing_made given.literals.now given.codes.now
    (refused_beyond given.literals.now (length given.codes.now) (sym c.has_beyond.ensures ∙ c.if-has_beyond.true)) in
    record { value = both.0; codes_after = both.1 }

pub encode_clauses-end-requires : goal.encode_clauses-end-requires
encode_clauses-end-requires c = (
  c.if-codes-literals.false,
  names_all max_unknowns c.args.literals.now
      (sym c.has_beyond.ensures ∙ c.if-has_beyond.false),
)

pub clear_behind-requires : goal.clear_behind-requires
clear_behind-requires c =
    let encode_clauses_call = c.encode_clauses-end in
    omega (
      arith,
      encoding_length c.args.literals.now,
      encode_clauses_call.ensures.value,
      encode_clauses_call.auto.codes,
      c.if-codes-literals.false,
    )

pub returns : goal.returns
returns c =
    let encode_clauses_call = c.encode_clauses-end in
    let given = c.args in
    let both = all_made given.literals.now given.codes.now encode_clauses_call.new.codes c.clear_behind.new.codes
    encode_clauses_call.result
    (refused_neither given.literals.now (length given.codes.now) c.if-codes-literals.false
    (sym c.has_beyond.ensures ∙ c.if-has_beyond.false))
    encode_clauses_call.ensures.value encode_clauses_call.ensures.codes_after encode_clauses_call.auto.codes c.clear_behind.ensures in
    record { value = both.0; codes_after = both.1 }
