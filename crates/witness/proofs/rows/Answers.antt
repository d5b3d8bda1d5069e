-- `witness::rows` meets its contract: an accepted file has all the bytes that its counts ask for.
-- Assumes nothing.
use Prim.Native.Nat.{ℕ, ◌+◌, ◌*◌}
use mathlib.Core.Path.{◌≡◌, refl, sym, ap, ap₂, ◌∙◌}
use mathlib.Core.Bool.{Bool, true, false}
use native.Mathlib.Omega.{arith}
use lib.ListN.{take, drop}
use Rattle.std.specs.Result.{is_err}
use Rattle.witness.specs.declared.Record.{Record}
use Rattle.witness.specs.File.{stands, part, if_stands, has, record_of, file_cause, side_rows, rows_back, rows_start}
use Rattle.witness.proofs.TestLaws.{pass, accepted}
use Rattle.witness.proofs.NumberLaws.{no_cause, some_cause}
use Rattle.witness.proofs.RowsLaws.{accepted_rows, accepted_start}
use Rattle.witness.proofs.rows.Goals as goal

pub returns-then-is_err : goal.returns-then-is_err
unfolding rows_back rows_start
returns-then-is_err c =
    let given = c.args in
    let f = given.file.now in
    let wrong = some_cause (file_cause f) tt (sym (ap is_err c.file_cause.ensures) ∙ sym c.is_err.ensures.value ∙ c.if-is_err.true) in record {
      result_value = sym (pass (side_rows given.universal f) wrong);
      own = (refl, rw wrong (omega arith));
    }

pub rows_at-requires : goal.rows_at-requires
unfolding record_of
rows_at-requires c =
    let record_of_call = c.record_of-record in
    let f = c.args.file.now in
    let none : file_cause f ≡ 0 = no_cause (file_cause f) tt (sym (ap is_err c.file_cause.ensures) ∙ sym c.is_err.ensures.value ∙ c.if-is_err.false) in
    let whole = (accepted f none).whole in
    let there : c.stands.result ≡ has 2 f = c.stands.ensures ∙ ap (λ (r : Record). stands 2 r.map) record_of_call.ensures in
    let width = ap₂ (λ (t : Bool) (r : Record). if_stands t (2 + 16 * r.universal)) there record_of_call.ensures in
    omega (arith, whole, width, c.layout_of-at.ensures.universal)

pub returns-then-universal : goal.returns-then-universal
unfolding record_of
returns-then-universal c =
    let given = c.args in
    let f = given.file.now in
    let layout_of_call = c.layout_of-at in
    let record_of_call = c.record_of-record in
    let none : file_cause f ≡ 0 = no_cause (file_cause f) tt (sym (ap is_err c.file_cause.ensures) ∙ sym c.is_err.ensures.value ∙ c.if-is_err.false) in
    let asked = c.if-universal.true in
    let there : c.stands.result ≡ has 2 f = c.stands.ensures ∙ ap (λ (r : Record). stands 2 r.map) record_of_call.ensures in
    let bytes =
    ap₂ (λ (r : Record) (k : ℕ). take (16 * r.universal) (drop (k + 2) f)) record_of_call.ensures layout_of_call.ensures.universal in
    let start = ap₂ (λ (t : Bool) (k : ℕ). if_stands t (k + 2)) there layout_of_call.ensures.universal in record {
      result_value = c.rows_at.ensures.result_value ∙ ap₂ part there bytes ∙ accepted_rows f given.universal true none asked;
      own = (c.rows_at.ensures.own.0, omega (arith, start, accepted_start f given.universal true none asked, c.rows_at.ensures.own.1));
    }

pub rows_at-requires-2 : goal.rows_at-requires-2
unfolding record_of
rows_at-requires-2 c =
    let record_of_call = c.record_of-record in
    let f = c.args.file.now in
    let none : file_cause f ≡ 0 = no_cause (file_cause f) tt (sym (ap is_err c.file_cause.ensures) ∙ sym c.is_err.ensures.value ∙ c.if-is_err.false) in
    let whole = (accepted f none).whole in
    let there : c.stands-2.result ≡ has 3 f = c.stands-2.ensures ∙ ap (λ (r : Record). stands 3 r.map) record_of_call.ensures in
    let width = ap₂ (λ (t : Bool) (r : Record). if_stands t (2 + 16 * r.existential)) there record_of_call.ensures in
    omega (arith, whole, width, c.layout_of-at.ensures.existential)

pub returns : goal.returns
unfolding record_of
returns c =
    let given = c.args in
    let f = given.file.now in
    let layout_of_call = c.layout_of-at in
    let record_of_call = c.record_of-record in
    let none : file_cause f ≡ 0 = no_cause (file_cause f) tt (sym (ap is_err c.file_cause.ensures) ∙ sym c.is_err.ensures.value ∙ c.if-is_err.false) in
    let asked = c.if-universal.false in
    let there : c.stands-2.result ≡ has 3 f = c.stands-2.ensures ∙ ap (λ (r : Record). stands 3 r.map) record_of_call.ensures in
    let bytes =
    ap₂ (λ (r : Record) (k : ℕ). take (16 * r.existential) (drop (k + 2) f)) record_of_call.ensures layout_of_call.ensures.existential in
    let start = ap₂ (λ (t : Bool) (k : ℕ). if_stands t (k + 2)) there layout_of_call.ensures.existential in record {
      result_value = c.rows_at-2.ensures.result_value ∙ ap₂ part there bytes ∙ accepted_rows f given.universal false none asked;
      own = (c.rows_at-2.ensures.own.0, omega (arith, start, accepted_start f given.universal false none asked, c.rows_at-2.ensures.own.1));
    }
