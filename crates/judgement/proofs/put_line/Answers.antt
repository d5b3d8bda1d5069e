-- `judgement::put_line` meets its contract, in each case. Assumes nothing.
use mathlib.Core.Path.{refl}
use Rattle.report.specs.Report.{ascii}
use Rattle.judgement.specs.declared.Finding.TheVariants.{NotBorneOut, Accepted, OtherFormula, Refused}
use Rattle.judgement.proofs.FindingLaws.{line_put, case_put}
use Rattle.judgement.proofs.put_line.Goals as goal

pub returns-in-NotBorneOut : goal.returns-in-NotBorneOut
returns-in-NotBorneOut c =
    let both = case_put c.args.out.now NotBorneOut c.in-NotBorneOut.is (line_put (ascii "not borne out\n") c.args.out.now refl c.append.ensures.value c.append.ensures.out_after) in
    record { value = both.0; out_after = both.1 }

pub returns-in-Accepted : goal.returns-in-Accepted
returns-in-Accepted c =
    let both = case_put c.args.out.now (Accepted c.in-Accepted.claim) c.in-Accepted.is (c.accepted.ensures.value, c.accepted.ensures.out_after) in
    record { value = both.0; out_after = both.1 }

pub returns-in-OtherFormula : goal.returns-in-OtherFormula
returns-in-OtherFormula c =
    let both = case_put c.args.out.now OtherFormula c.in-OtherFormula.is (line_put (ascii "not of this formula\n") c.args.out.now refl c.append-in-OtherFormula.ensures.value c.append-in-OtherFormula.ensures.out_after) in
    record { value = both.0; out_after = both.1 }

pub returns-in-Refused : goal.returns-in-Refused
returns-in-Refused c =
    let both = case_put c.args.out.now (Refused c.in-Refused.number c.in-Refused.line) c.in-Refused.is (c.refusal.ensures.value, c.refusal.ensures.out_after) in
    record { value = both.0; out_after = both.1 }
