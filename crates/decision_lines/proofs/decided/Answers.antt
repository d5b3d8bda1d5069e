-- `decision_lines::decided` meets its contract. Assumes nothing.
use mathlib.Core.Path.{ap}
use Rattle.decision.specs.Deciding.{Ending}
use Rattle.decision_lines.proofs.decided.Goals as goal

pub shape_of-area : goal.shape_of-area
shape_of-area c =
    let decide_within_call = c.decide_within in
    decide_within_call.auto.area

pub returns : goal.returns
returns c =
    let decide_within_call = c.decide_within in record {
      value = ap (λ (e : Ending). e.decision) decide_within_call.ensures.decides.decided_so;
      area_after = decide_within_call.ensures.area;
    }
