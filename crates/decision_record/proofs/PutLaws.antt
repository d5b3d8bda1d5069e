-- The lines that are put, by the case that is known. Assumes nothing.
use Prim.Native.Nat.{ℕ}
use Rattle.std.specs.Prelude.{Result}
use Rattle.cause.specs.declared.Cause.{Cause}
use mathlib.Core.Path.{◌≡◌, sym, subst}
use mathlib.Core.List.{List}
use Rattle.engine.specs.declared.run.Answer.{Answer}
use Rattle.fee.specs.Fee.{charged}
use Rattle.report.specs.Report.{put, put_count}
use Rattle.decision.specs.declared.Decision.{Decision}
use Rattle.decision_record.specs.Recorded.{charge_line, line_for, recorded}
use Rattle.decision_record.specs.RecordedRight.{RecordedRight}
use Rattle.decision_record.proofs.RecordedRight.{recorded_right}

abbrev pub Put : List ℕ → List ℕ → ℕ → List ℕ → Type 0
Put bytes out r after = (r ≡ put_count bytes out) × (after ≡ put bytes out)

module _ (out : List ℕ) {r : ℕ} {after : List ℕ} where
  -- The charge is known.
  pub charge_put : (answer rounds : ℕ) {charge : Result ℕ Cause} (case : Result ℕ Cause) → charge ≡ case → Put (charge_line answer rounds case) out r after
      → Put (charge_line answer rounds charge) out r after
  charge_put answer rounds case told p = subst (λ (x : Result ℕ Cause). Put (charge_line answer rounds x) out r after) (sym told) p

  -- It is the fee's.
  pub charged_put : (answer rounds : ℕ) (kinds : List ℕ) {charge : Result ℕ Cause} → charge ≡ charged kinds rounds
      → Put (charge_line answer rounds charge) out r after
      → Put (charge_line answer rounds (charged kinds rounds)) out r after
  charged_put answer rounds kinds told p = subst (λ (x : Result ℕ Cause). Put (charge_line answer rounds x) out r after) told p

  -- The answer is known.
  pub answer_put : (d : Decision) (kinds : List ℕ) (case : Answer) → d.answer ≡ case → Put (line_for case d.line d.round kinds) out r after
      → (r ≡ put_count (recorded d kinds) out) × ((after ≡ put (recorded d kinds) out) × RecordedRight d kinds)
  unfolding recorded
  answer_put d kinds case told p =
      let so = subst (λ (x : Answer). Put (line_for x d.line d.round kinds) out r after) (sym told) p in
      (so.0, (so.1, recorded_right d kinds))
