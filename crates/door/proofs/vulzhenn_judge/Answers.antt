-- `vulzhenn_judge` meets its contract, in each case of what is found. Assumes nothing.
use native.Mathlib.Omega.{arith}
use mathlib.Core.Path.{sym, ◌∙◌}
use Rattle.judgement.specs.declared.Finding.TheVariants.{NotBorneOut, Accepted, OtherFormula, Refused}
use Rattle.door.proofs.WitnessLaws.{case_judged}
use Rattle.door.proofs.vulzhenn_judge.Goals as goal

pub overflow_add-result : goal.overflow_add-result
overflow_add-result c = omega (arith, c.find.ensures.proved.few c.in-Refused.number c.in-Refused.line (sym c.find.ensures.found ∙ c.in-Refused.is))

pub returns-in-NotBorneOut : goal.returns-in-NotBorneOut
returns-in-NotBorneOut c =
    let both = case_judged c.args.text.now c.args.witness.now c.args.work.now c.find.ensures.proved NotBorneOut c.find.ensures.found c.in-NotBorneOut.is c.find.ensures.left in
    record { answered = both.0; left = both.1.0; right = both.1.1 }

pub returns-in-Accepted : goal.returns-in-Accepted
returns-in-Accepted c =
    let both = case_judged c.args.text.now c.args.witness.now c.args.work.now c.find.ensures.proved (Accepted c.in-Accepted.field-0) c.find.ensures.found c.in-Accepted.is c.find.ensures.left in
    record { answered = both.0; left = both.1.0; right = both.1.1 }

pub returns-in-OtherFormula : goal.returns-in-OtherFormula
returns-in-OtherFormula c =
    let both = case_judged c.args.text.now c.args.witness.now c.args.work.now c.find.ensures.proved OtherFormula c.find.ensures.found c.in-OtherFormula.is c.find.ensures.left in
    record { answered = both.0; left = both.1.0; right = both.1.1 }

pub returns-in-Refused : goal.returns-in-Refused
returns-in-Refused c =
    let both = case_judged c.args.text.now c.args.witness.now c.args.work.now c.find.ensures.proved (Refused c.in-Refused.number c.in-Refused.line) c.find.ensures.found c.in-Refused.is c.find.ensures.left in
    record { answered = both.0; left = both.1.0; right = both.1.1 }
