-- What a run reports follows from what it returned.
-- Assumes nothing.
use Prim.Native.Nat.{ℕ}
use mathlib.Core.Path.{◌≡◌, ap, ◌∙◌}
use Rattle.engine.specs.declared.run.Outcome.{Outcome}
use Rattle.engine.specs.Numbers.{one_number}
use Rattle.probe.specs.Numbers.{Reported}

pub reported : {o p : Outcome} {r : ℕ} → r ≡ one_number o.answer → o ≡ p → Reported p r o.round o.universal o.existential o.opening o.block
reported numbered returned =
    record {
      numbered = numbered ∙ ap (λ (o : Outcome). one_number o.answer) returned;
      round_reached = ap (λ (o : Outcome). o.round) returned;
      universals = ap (λ (o : Outcome). o.universal) returned;
      existentials = ap (λ (o : Outcome). o.existential) returned;
      opened = ap (λ (o : Outcome). o.opening) returned;
      block_long = ap (λ (o : Outcome). o.block) returned;
    }
