use Prim.Native.Nat.{ℕ}
use mathlib.Core.Path.{ap, ◌∙◌}
use Rattle.std.specs.Prelude.{Err, Ok}
use Rattle.report.specs.Report.{refusal_line, put, put_count}
use Rattle.decision_record.proofs.PutLaws.{charge_put}
use Rattle.decision_record.proofs.put_charge.Goals as goal

-- src/lib.rt:33:1
pub returns-in-Ok : goal.returns-in-Ok
returns-in-Ok c =
    let given = c.args in
    let both = charge_put given.out.now given.answer given.rounds (Ok c.in-Ok.cents) c.in-Ok.is
    (c.study_record.ensures.value, c.study_record.ensures.out_after) in
    record { value = both.0; out_after = both.1 }

-- src/lib.rt:33:1
pub returns-in-Err : goal.returns-in-Err
returns-in-Err c =
    let given = c.args in
    let both = charge_put given.out.now given.answer given.rounds (Err c.in-Err.cause) c.in-Err.is (
      c.refusal.ensures.value ∙ ap (λ (n : ℕ). put_count (refusal_line n 0) given.out.now) c.number.ensures,
      c.refusal.ensures.out_after ∙ ap (λ (n : ℕ). put (refusal_line n 0) given.out.now) c.number.ensures,
    ) in
    record { value = both.0; out_after = both.1 }
