-- `judgement::accepted` meets its contract. Assumes nothing.
use Rattle.judgement.proofs.FindingLaws.{line_put, accepted_0, accepted_1}
use Rattle.judgement.specs.Finding.{accepted_line}
use Rattle.judgement.proofs.accepted.Goals as goal

pub returns-then-claim-eq0 : goal.returns-then-claim-eq0
returns-then-claim-eq0 c =
    let both = line_put (accepted_line c.args.claim) c.args.out.now (accepted_0 c.args.claim c.if-claim-eq0.true) c.append.ensures.value c.append.ensures.out_after in
    record { value = both.0; out_after = both.1 }

pub returns : goal.returns
returns c =
    let both = line_put (accepted_line c.args.claim) c.args.out.now (accepted_1 c.args.claim c.if-claim-eq0.false) c.append-2.ensures.value c.append-2.ensures.out_after in
    record { value = both.0; out_after = both.1 }
