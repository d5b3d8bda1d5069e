-- `writer::write` meets its contract. Assumes nothing.
use lib.Seq.{length-take-le}
use mathlib.Core.Path.{sym, ◌∙◌}
use native.Mathlib.Omega.{arith}
use Rattle.formula.proofs.Accepted.{accepted}
use Rattle.writer.proofs.OutputLaws.{clauses_counted, no_names, no_formula, a_text, wrote_nothing, wrote}
use Rattle.writer.proofs.PutLaws.{put_within}
use Rattle.writer.proofs.write.Goals as goal

pub returns-then-names-kinds : goal.returns-then-names-kinds
returns-then-names-kinds c =
    let given = c.args in
    let both = wrote_nothing given.kinds.now given.literals.now given.names.now given.variables given.out.now
    (no_names given.kinds.now given.literals.now given.names.now given.variables c.if-names-kinds.true) in
    record { counted = both.0; written = both.1.0; proved = both.1.1 }

pub fill-end-requires : goal.fill-end-requires
fill-end-requires c =
    let check_call = c.check in
    let given = c.args in (
      accepted given.kinds.now given.literals.now (sym check_call.ensures.value ∙ c.in-Ok.is),
      c.if-names-kinds.false,
      clauses_counted given.kinds.now given.literals.now c.in-Ok.sizes (sym check_call.ensures.value ∙ c.in-Ok.is),
      omega arith,
    )

pub slice_bounds-text-end : goal.slice_bounds-text-end
slice_bounds-text-end c = put_within c.fill-end.ensures

pub slice_bounds-append-end : goal.slice_bounds-append-end
slice_bounds-append-end c = sym (length-take-le _ _ (put_within c.fill-end.ensures))

pub returns-in-Err : goal.returns-in-Err
returns-in-Err c =
    let given = c.args in
    let both = wrote_nothing given.kinds.now given.literals.now given.names.now given.variables given.out.now
    (no_formula given.kinds.now given.literals.now given.names.now given.variables c.in-Err.field-0
    (sym c.check.ensures.value ∙ c.in-Err.is)) in
    record { counted = both.0; written = both.1.0; proved = both.1.1 }

pub returns-in-Ok : goal.returns-in-Ok
returns-in-Ok c =
    let given = c.args in
    let both = wrote given.kinds.now given.literals.now given.names.now given.variables given.out.now
    (a_text given.kinds.now given.literals.now given.names.now given.variables c.in-Ok.sizes c.if-names-kinds.false
    (sym c.check.ensures.value ∙ c.in-Ok.is)) c.fill-end.ensures
    c.append.ensures.value c.append.ensures.out_after in
    record { counted = both.0; written = both.1.0; proved = both.1.1 }
