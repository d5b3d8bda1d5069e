-- The kinds of the formula that was read stand at the front of their table. Assumes nothing.
use Prim.Native.Nat.{ℕ, ◌≤◌}
use native.Mathlib.Omega.{arith}
use mathlib.Core.Path.{◌≡◌, refl, ap, ◌∙◌}
use mathlib.Core.List.{List}
use lib.ListN.{length, take, drop}
use lib.Seq.{take_at}
use Rattle.formula.specs.Formula.{max_unknowns}
use Rattle.formula.proofs.Accepted.{accepted}
use Rattle.lines.specs.Lines.{Bytes}
use Rattle.text.specs.declared.Form.{Form}
use Rattle.text.specs.Reading.{Result, taken, refused, kinds_after}
use Rattle.text.specs.Form.{has_gates, form_read}
use Rattle.engine.specs.Outcome.{Areas}
use Rattle.decision.specs.declared.Decision.{Decision}
use Rattle.decision.specs.Deciding.{Ending, ending, decided}
use Rattle.decision.proofs.DecisionRight.{passes}
use Rattle.decision_record.specs.Recorded.{kinds_of}

module _ (form : Form) (text : Bytes) (settings : List ℕ) (found : Areas) where
  kinds_few : (x : Result) → form_read form text ≡ x → length (kinds_of x) ≤ max_unknowns
  kinds_few (taken r) is = (accepted r.kinds r.literals (passes (has_gates form text) text 128 8192 128 r is).accepted).few_unknowns
  kinds_few (refused n line) is = omega arith

  unknowns_of : (x : Result) → (decided x settings found).decision.unknowns ≡ length (kinds_of x)
  unknowns_of (taken r) = refl
  unknowns_of (refused n line) = refl

  front_of : (x : Result) (old : List ℕ) → take (length (kinds_of x)) (kinds_after x old) ≡ kinds_of x
  front_of (taken r) old = take_at r.kinds (drop (length r.kinds) old) (length r.kinds) refl
  front_of (refused n line) old = refl

  module _ {d : Decision} {exit : Areas} (so : ending d exit ≡ decided (form_read form text) settings found) where
    same_unknowns : d.unknowns ≡ length (kinds_of (form_read form text))
    same_unknowns = ap (λ (e : Ending). e.decision.unknowns) so ∙ unknowns_of (form_read form text)

    pub few_unknowns : d.unknowns ≤ max_unknowns
    few_unknowns = omega (arith, same_unknowns, kinds_few (form_read form text) refl)

    pub kinds_front : (old : List ℕ) {kinds : List ℕ} → kinds ≡ kinds_after (form_read form text) old → take d.unknowns kinds ≡ kinds_of (form_read form text)
    kinds_front old {kinds} written = rw (same_unknowns, written) (front_of (form_read form text) old)

    pub same_decision : d ≡ (decided (form_read form text) settings found).decision
    same_decision = ap (λ (e : Ending). e.decision) so
