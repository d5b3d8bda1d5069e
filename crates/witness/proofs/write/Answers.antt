-- `witness::write` meets its contract: the parts that are put make the file. Assumes nothing.
use Prim.Native.Nat.{ℕ}
use Rattle.std.specs.Prelude.{Ok}
use Rattle.std.specs.Result.{is_err}
use mathlib.Core.Path.{◌≡◌, sym, ap, ap₂, ◌∙◌}
use mathlib.Core.List.{List, ◌++◌}
use native.Mathlib.Omega.{arith}
use lib.ListN.{length, drop}
use borrow.Author.Tests.{eq-eqb}
use Rattle.witness.specs.File.{file, size, write_cause, writing, writing_number, length_written, out_after}
use Rattle.witness.specs.Private.Steps.{Fitting}
use Rattle.witness.proofs.TestLaws.{pass, stop, write_taken}
use Rattle.witness.proofs.PutLaws.{fields_file, length_fields}
use Rattle.witness.proofs.RoundTrip.{round_trip}
use Rattle.witness.proofs.NumberLaws.{no_cause, some_cause, writing_numbered, writing_valued}
use borrow.Author.Rules.{rules}
use Rattle.witness.proofs.write.Goals as goal

pub put_all-requires : goal.put_all-requires
put_all-requires c =
    let given = c.args in
    let none = no_cause (write_cause given.«record» given.universal.now given.existential.now (length given.out.now)) tt
    (sym (ap is_err (sym c.in_ok-write_cause.was ∙ c.write_cause.ensures))) in
    (write_taken given.«record» given.universal.now given.existential.now (length given.out.now) none).fitting

pub returns-in_err-write_cause : goal.returns-in_err-write_cause
unfolding out_after
returns-in_err-write_cause c =
    let given = c.args in
    let r = given.«record» in
    let u = given.universal.now in
    let e = given.existential.now in
    let out = given.out.now in
    let value : c.from_residual.result ≡ writing r u e out = search rules in
    let refused = some_cause (write_cause r u e (length out)) tt (sym (ap is_err (sym c.in_err-write_cause.was ∙ c.write_cause.ensures))) in
    record {
      value = value;
      out_after = sym (pass (file r u e ++ drop (size r) out) refused);
      numbered = ap writing_number value ∙ writing_numbered r u e out;
      valued = ap length_written value ∙ writing_valued r u e out;
      round_trip = round_trip;
    }

pub returns : goal.returns
unfolding out_after
returns c =
    let given = c.args in
    let r = given.«record» in
    let u = given.universal.now in
    let e = given.existential.now in
    let out = given.out.now in
    let none = no_cause (write_cause r u e (length out)) tt (sym (ap is_err (sym c.in_ok-write_cause.was ∙ c.write_cause.ensures))) in
    let taken = eq-eqb (write_cause r u e (length out)) 0 none in
    let fitting : Fitting r u e (length out) = (write_taken r u e (length out) none).fitting in
    let place : c.put_all.result ≡ size r = omega (arith, c.put_all.ensures.place, length_fields r u e (length out) fitting) in
    let value : Ok c.put_all.result ≡ writing r u e out = ap Ok place ∙ sym (stop _ taken) in
    record {
      value = value;
      out_after =
          c.put_all.ensures.whole ∙ ap₂ (λ (l : List ℕ) (k : ℕ). l ++ drop k out) (fields_file r u e) place ∙ sym (stop out taken);
      numbered = ap writing_number value ∙ writing_numbered r u e out;
      valued = ap length_written value ∙ writing_valued r u e out;
      round_trip = round_trip;
    }
