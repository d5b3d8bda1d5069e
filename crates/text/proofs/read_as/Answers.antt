-- The text is read into tables of the function's own, which are handed over if all of it is taken. Assumes nothing.
use Rattle.std.proofs.lemmas.Result.{err_from_is_err_and}
use mathlib.Core.Path.{sym, ◌∙◌}
use native.Mathlib.Omega.{arith}
use mathlib.Core.Path.{◌≡◌}
use lib.ListN.{length}
use Rattle.text.specs.Reading.{scan, stopped}
use Rattle.text.proofs.ReadingLaws.{refused_whole, outcome_refused, outcome_taken, scan_placeable, taken_whole}
use Rattle.text.proofs.CausesRight.{stops_among}
use Rattle.text.proofs.read_as.Goals as goal
use Rattle.text.proofs.read_as.Goals.{Then-c-ne0}

pub returns-in_err-o : goal.returns-in_err-o
returns-in_err-o c =
    let q = err_from_is_err_and c.from_residual.result c.from_residual.ensures.1 in
    rw (q.1, q.2) (record { written = refused_whole c.in_err-o.ensures })

-- The lines behind the opening stop where the whole text does.
lines_stop : (c : Then-c-ne0) → scan c.args.gates c.args.text.now (length c.args.kinds.now) (length c.args.literals.now) (length c.args.names.now)
    ≡ stopped c.read_lines-c.result.cause c.read_lines-c.result.line
lines_stop c =
    c.in_ok-o.ensures.right ∙ sym c.read_lines-c.ensures.right
    ∙ outcome_refused c.read_lines-c.result c.read_lines-c.new.kinds c.read_lines-c.new.names c.read_lines-c.new.literals (λ e. omega (arith, c.if-c-ne0.true))

pub caused-requires : goal.caused-requires
caused-requires c = stops_among c.args.gates c.args.text.now _ _ _ (lines_stop (goal.at.caused-requires c).Then-c-ne0)

pub returns-then-c-ne0 : goal.returns-then-c-ne0
returns-then-c-ne0 c = record { written = refused_whole (rw c.caused.ensures (lines_stop (goal.at.returns-then-c-ne0 c).Then-c-ne0)) }

pub returns : goal.returns
returns c =
    let given = c.args in
    let z = c.in_ok-o.ensures.sizes in
    let own_kinds = c.read_lines-c.new.kinds in
    let own_literals = c.read_lines-c.new.literals in
    let own_names = c.read_lines-c.new.names in
    let e = c.in_ok-o.ensures.right ∙ sym c.read_lines-c.ensures.right ∙ outcome_taken c.read_lines-c.result own_kinds own_names own_literals
    (omega (arith, c.if-c-ne0.false)) in record {
      written = rw e
          (taken_whole c.read_lines-c.result own_kinds own_names own_literals c.read_lines-c.ensures.sized given.kinds.now given.literals.now given.names.now
          (z.0, z.1, z.2)
          (scan_placeable given.gates given.text.now (length given.kinds.now) (length given.literals.now) (length given.names.now) c.read_lines-c.result
          own_kinds own_names own_literals e)
          c.close.ensures);
    }
